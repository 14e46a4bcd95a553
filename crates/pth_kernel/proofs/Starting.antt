-- A kernel before anything came.
use Rattle.std.proofs.Common.{◌≡◌, ℕ, ◌==◌, ◌%◌, ◌^◌, ◌<◌, ◌≤◌, false, List, length, get_or, inl, inr, ◌⊎◌, ◌∙◌, sym, ap, arith}
use Rattle.std.proofs.Math.Nat.{div-eq_of_lt}
use Rattle.std.proofs.Math.Pow.{pow_mono}
use Rattle.std.proofs.lemmas.Bool.{cases_lt}
use Rattle.std.proofs.lemmas.List.{length-map, get_or-map, get_or_past}
use mathlib.Core.Path.{fun_ext}
use Rattle.pth_base.specs.Descriptors.{contains, descriptor_limit}
use Rattle.pth_base.specs.Table.{table}
use Rattle.pth_kernel.specs.declared.trace.Stamp.{Stamp}
use Rattle.pth_kernel.specs.Kernel.{Descriptor, kernel_of, untouched, started}
use Rattle.pth_kernel.specs.Channels.{ChannelOf, unfed}
use Rattle.pth_kernel.specs.Kept.{AreOpen}
use Rattle.pth_kernel.proofs.Shown.{seen, uses_of}

contains-past : (live f : ℕ) → live < 2 ^ 64 → descriptor_limit ≤ f → contains live f ≡ false
contains-past live f low high =
    let p : 2 ^ 64 ≤ 2 ^ f = pow_mono high in
    let q : live < 2 ^ f = omega arith in
    ap (λ (n : ℕ). n % 2 == 1) (div-eq_of_lt q)

module _ (live : ℕ) (xs ys : List ChannelOf) (many : length xs ≡ descriptor_limit) (all : (f : ℕ) (d : ChannelOf) → f < descriptor_limit → get_or xs f d ≡ unfed (contains live f)) (low : live < 2 ^ 64) where
  by_place : (f : ℕ) → (f < descriptor_limit) ⊎ (descriptor_limit ≤ f) → get_or (uses_of xs) f (untouched false) ≡ untouched (contains live f)
  by_place f (inl near) = let h : f < length xs = omega arith in get_or-map (λ (x : ChannelOf). x.used) xs f (unfed false) (untouched false) h ∙ ap (λ (x : ChannelOf). x.used) (all f (unfed false) near)
  by_place f (inr far) = get_or_past (uses_of xs) f (untouched false) (omega (arith, length-map xs (λ (x : ChannelOf). x.used))) ∙ ap untouched (sym (contains-past live f low far))

  pub opens : uses_of ys ≡ uses_of xs → AreOpen live ys
  opens same = ap (table (untouched false)) same ∙ fun_ext (λ f. by_place f (cases_lt f descriptor_limit))

pub starts : (ss : List Stamp) (clock live : ℕ) (xs ys : List ChannelOf) → AreOpen live xs → uses_of ys ≡ uses_of xs → kernel_of (seen ss 0 clock ys) ≡ started clock live ss
starts ss clock live xs ys all same = ap (λ (t : ℕ → Descriptor). record (started clock live ss) { descriptors = t }) (ap (table (untouched false)) same ∙ all)
