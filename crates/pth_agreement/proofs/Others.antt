-- What may stand in place of a kernel's trace and its descriptors.
use Rattle.std.proofs.Common.{◌≡◌, ℕ, Bool, true, List, [], ◌∷◌, ◌++◌}
use Rattle.pth_base.specs.Table.{put}
use Rattle.pth_kernel.specs.Kernel.{Kernel, Descriptor}
use Rattle.pth_kernel.specs.declared.trace.Stamp.{Stamp}

pub record Others : Type 0 where
  pub trace : List Stamp
  pub descriptors : (ℕ → Descriptor) → ℕ → Descriptor
  -- which descriptors are left as they are
  pub left : ℕ → Bool
  pub same_at : (ds : ℕ → Descriptor) (f : ℕ) → left f ≡ true → descriptors ds f ≡ ds f
  -- what is done to one of them is done to the others too; and so is the opening of any
  pub puts : (ds : ℕ → Descriptor) (f : ℕ) (x : Descriptor) → left f ≡ true → descriptors (put ds f x) ≡ put (descriptors ds) f x
  pub opens : (ds : ℕ → Descriptor) (f : ℕ) → descriptors (put ds f (record (ds f) { live = true })) ≡ put (descriptors ds) f (record (descriptors ds f) { live = true })

abbrev pub other_kernel : Others → Kernel → Kernel
other_kernel other k = record k { trace = other.trace; descriptors = other.descriptors k.descriptors }

-- all of these are left
abbrev pub AllLeft : Others → List ℕ → Type 0
AllLeft other [] = Unit {0}
AllLeft other (f ∷ fs) = (other.left f ≡ true) × AllLeft other fs

pub left_parts : (other : Others) (xs ys : List ℕ) → AllLeft other (xs ++ ys) → AllLeft other xs × AllLeft other ys
left_parts other [] ys h = (tt, h)
left_parts other (x ∷ xs) ys h = let more = left_parts other xs ys h.1 in ((h.0, more.0), more.1)
