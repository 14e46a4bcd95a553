-- What reading up to a number of bytes gives, if the bytes are told.
use Rattle.std.proofs.Common.{◌≡◌, ◌∙◌, ◌≤◌, ◌+◌, ℕ, List, [], ◌++◌, length, take, drop, Bool, true, false, not, codes, if◌then◌else◌, option_map, Option, Some, None, Result, Ok, Err, IfSome, IfOk, IsErr, IsErrAnd, Vec, Global, MatchResult, ap, sym, refl, subst, arith, inl, inr, append-nil}
use Rattle.std.specs.Borrow.{Bor}
use Rattle.std.specs.Str.{bytes_eq}
use Rattle.std.proofs.lemmas.List.{take_all}
use Rattle.std.proofs.Math.ListN.{drop_of_length-le}
use Rattle.std.proofs.lemmas.Bool.{cases_order, not-false, not-true}
use Rattle.std.proofs.Math.Seq.{take-append_seam, drop-append_seam}
use Rattle.pth_print.specs.declared.fault_line.Fault.{Fault}
use Rattle.pth_print.specs.declared.fault_line.Fault.TheVariants as fault
use Rattle.pth_kernel.specs.Kernel.{KernelOf}
use Rattle.pth_line.specs.Script.{Sections}
use Rattle.pth_script.specs.Follows.{IsReadAs, IsRefusedAs}
use Rattle.pth_script.specs.Upgrade.{IsUpgrade, IsUpgradedAs}
use Rattle.pth_text.specs.declared.rule.Breach.TheVariants.{Limit, Of}
use Rattle.pth_filter.specs.Faults.{fault_of_read}
use Rattle.pth_filter.specs.Objects.{Object, Stands, is_file, made, named, nothing, of_read}
use Rattle.pth_player.specs.FaultsOfErrors.{fault_of_script}
use Rattle.pth_streams.specs.Inputs.{AreHeld, Inputs}
use Rattle.pth_player.specs.Objects.{LosesRead, ObjectCounts, ObjectRead, cut, object_of}
use Rattle.pth_script.specs.Broken.{IsRefusal}
use Rattle.pth_command.specs.CommandLine.{IsWorkload}
use Rattle.pth_script.specs.Generated.{generated}
use Rattle.pth_script.specs.Limits.{text_limit}
use Rattle.pth_script.proofs.Generating.{generated_short}
use Rattle.pth_player.specs.Play.{IsRead, ReadsBytes, ReadsText}
use Rattle.pth_streams.specs.Faults.{CountsRead, Rose}
use Rattle.pth_player.specs.Streams.{TakesUpTo}
use Rattle.pth_streams.specs.declared.source.ReadFault.{ReadFault}
use Rattle.pth_streams.specs.declared.source.ReadFault.TheVariants as read
use Rattle.pth_script.specs.declared.read.ReadErr.{ReadErr}
use Rattle.pth_script.specs.declared.read.ReadErr.TheVariants as script
use Rattle.pth_player.proofs.Results.{err_and, err_is, ok_not_err, told}

all_of : (cap : ℕ) (xs ys bytes : List ℕ) → xs ≡ bytes ++ ys → ys ≡ [] → length bytes ≤ cap → (bytes ≡ take cap xs) × (Some ys ≡ Some (drop cap xs))
all_of cap xs ys bytes e end bound =
    let same : xs ≡ bytes = e ∙ ap (λ (l : List ℕ). bytes ++ l) end ∙ append-nil bytes in
    let front : take cap bytes ≡ bytes = take_all cap bytes bound in
    let back : drop cap bytes ≡ [] = drop_of_length-le bytes bound in
    (sym (ap (take cap) same ∙ front), ap Some (end ∙ sym (ap (drop cap) same ∙ back)))

front_of : (cap : ℕ) (xs ys bytes : List ℕ) → xs ≡ bytes ++ ys → length bytes ≡ cap → (bytes ≡ take cap xs) × (Some ys ≡ Some (drop cap xs))
front_of cap xs ys bytes e n =
    let front : take (length bytes) (bytes ++ ys) ≡ bytes = take-append_seam bytes ys in
    let back : drop (length bytes) (bytes ++ ys) ≡ ys = drop-append_seam bytes ys in
    (sym (rw (← n, e) front), ap Some (sym (rw (← n, e) back)))

pub takes_is : (cap : ℕ) (old new : Option (List ℕ)) (bytes : List ℕ) → TakesUpTo cap old new bytes
    → IfSome old (λ xs. (bytes ≡ take cap xs) × (new ≡ Some (drop cap xs)))
takes_is cap None new bytes t = tt
takes_is cap (Some xs) None bytes t = absurd t.taken
takes_is cap (Some xs) (Some ys) bytes t = elim (cases_order (length bytes) cap) [
  | inl same ↦ front_of cap xs ys bytes t.taken same
  | inr h ↦ elim h [
    | inl short ↦ all_of cap xs ys bytes t.taken (t.whole short) t.bound
    | inr long ↦ let b = t.bound in absurd (omega arith)
  ]
]

-- up to the byte after the limit
pub loses : (old new : Option (List ℕ)) (bytes : List ℕ) → TakesUpTo 16777217 old new bytes → LosesRead old new
unfolding text_limit
loses old new bytes t = told _ _ old (λ xs p. p.1) (takes_is 16777217 old new bytes t)

-- what was read is the content as far as it is read
pub held_is : (old new : Option (List ℕ)) (bytes : List ℕ) → TakesUpTo 16777217 old new bytes → (held : List ℕ) × AreHeld old held × (bytes ≡ cut held)
unfolding text_limit
held_is None new bytes t = (bytes, tt, sym (take_all 16777217 bytes t.bound))
held_is (Some xs) new bytes t = (xs, refl, (takes_is 16777217 (Some xs) new bytes t).0)

-- what was read of what stands under a name, by whether it is `-`
abbrev Read : Bool → List ℕ → Inputs → Inputs → List ℕ → Type 0
Read is_input name ins later bytes =
    (LosesRead (if is_input then ins.left else ins.held name) (if not is_input then later.file_left else later.left)
    × ((if not is_input then later.file_faults else later.faults) ≡ (if not is_input then ins.file_faults else ins.faults)))
    × ((held : List ℕ) × AreHeld (if is_input then ins.left else ins.held name) held × (bytes ≡ cut held))

-- the bytes that were read of the input, and of a file
pub input_bytes : (r : Result (Vec ℕ Global) ReadFault) (ins later : Inputs) (name : Option (List ℕ)) → is_file name ≡ false
    → IfOk r (λ v. TakesUpTo 16777217 ins.left later.left v.items) → CountsRead ins.faults later.faults r
    → IfOk r (λ v. ReadsBytes (named name) ins later v.items)
input_bytes (Ok v) ins later None is t stood = ((loses ins.left later.left v.items t, stood), held_is ins.left later.left v.items t)
input_bytes (Ok v) ins later (Some n) is t stood =
    subst (λ b. Read b n ins later v.items) (sym (not-false _ is)) ((loses ins.left later.left v.items t, stood), held_is ins.left later.left v.items t)
input_bytes (Err e) ins later name is t stood = tt

pub file_bytes : (r : Result (Vec ℕ Global) ReadFault) (ins later : Inputs) (n : List ℕ) → not (bytes_eq n (codes "-")) ≡ true
    → IfOk r (λ v. TakesUpTo 16777217 (ins.held n) later.file_left v.items) → CountsRead ins.file_faults later.file_faults r
    → IfOk r (λ v. ReadsBytes (named (Some n)) ins later v.items)
file_bytes (Ok v) ins later n is t stood =
    subst (λ b. Read b n ins later v.items) (sym (not-true _ is)) ((loses (ins.held n) later.file_left v.items t, stood), held_is (ins.held n) later.file_left v.items t)
file_bytes (Err e) ins later n is t stood = tt

-- the count of the object read is that of the input, or of the files
pub input_counts : (r : Result (Vec ℕ Global) ReadFault) (ins later : Inputs) (name : Option (List ℕ)) → is_file name ≡ false
    → CountsRead ins.faults later.faults r → ObjectCounts (named name) ins later r
input_counts (Ok v) ins later name is h = subst (λ b. of_read b later.faults later.file_faults ≡ of_read b ins.faults ins.file_faults) (sym is) h
input_counts (Err read.Failed) ins later name is h = subst (λ b. Rose (of_read b ins.faults ins.file_faults) (of_read b later.faults later.file_faults)) (sym is) h
input_counts (Err read.OutOfMemory) ins later name is h = subst (λ b. of_read b later.faults later.file_faults ≡ of_read b ins.faults ins.file_faults) (sym is) h

pub file_counts : (r : Result (Vec ℕ Global) ReadFault) (ins later : Inputs) (name : Option (List ℕ)) → is_file name ≡ true
    → CountsRead ins.file_faults later.file_faults r → ObjectCounts (named name) ins later r
file_counts (Ok v) ins later name is h = subst (λ b. of_read b later.faults later.file_faults ≡ of_read b ins.faults ins.file_faults) (sym is) h
file_counts (Err read.Failed) ins later name is h = subst (λ b. Rose (of_read b ins.faults ins.file_faults) (of_read b later.faults later.file_faults)) (sym is) h
file_counts (Err read.OutOfMemory) ins later name is h = subst (λ b. of_read b later.faults later.file_faults ≡ of_read b ins.faults ins.file_faults) (sym is) h

-- a read that follows one that did not fail
pub counts_from : (a b c : ℕ) (r : Result (Vec ℕ Global) ReadFault) → b ≡ a → CountsRead b c r → CountsRead a c r
counts_from a b c r e h = subst (λ (n : ℕ). CountsRead n c r) e h

-- no read of an object failed that was read
pub read_stood : (object : Object) (old new : Inputs) → ObjectRead object old new → Stands object old new
read_stood nothing old new h = tt
read_stood (made text) old new h = tt
read_stood (named name) old new h = h.1

-- the name of a word, if it is that of a file, or of the input
pub named_so : (o : Option (Bor (List ℕ))) (name : Bor (List ℕ)) → o ≡ Some name → option_map (λ n. n.now) o ≡ Some name.now
named_so o name is = ap (option_map (λ (n : Bor (List ℕ)). n.now)) is

pub names_input : (o : Option (Bor (List ℕ))) (name : Bor (List ℕ)) → o ≡ Some name → false ≡ not (bytes_eq name.now (codes "-"))
    → is_file (option_map (λ n. n.now) o) ≡ false
names_input o name is same = ap is_file (named_so o name is) ∙ sym same

pub names_none : (o : Option (Bor (List ℕ))) → ((name : Bor (List ℕ)) → o ≡ Some name → ⊥) → is_file (option_map (λ n. n.now) o) ≡ false
names_none None none = refl
names_none (Some name) none = absurd (none name refl)

-- a workload is made, and nothing is read for it
pub named_object : (o : Option ℕ) (name : Option (List ℕ)) → ((threads : ℕ) → o ≡ Some threads → ⊥) → object_of o name ≡ named name
named_object None name never = refl
named_object (Some threads) name never = absurd (never threads refl)

pub workload_bytes : (threads : ℕ) (o : Option ℕ) (name : Option (List ℕ)) (ins : Inputs) (bytes : List ℕ) → o ≡ Some threads → IfSome o IsWorkload → bytes ≡ generated threads
    → ReadsBytes (object_of o name) ins ins bytes
workload_bytes threads o name ins bytes is some same =
    let few = subst (λ o. IfSome o IsWorkload) is some in
    let whole : cut (generated threads) ≡ generated threads = take_all (text_limit + 1) (generated threads) (omega (arith, generated_short threads few.1)) in
    subst (λ o. ReadsBytes (object_of o name) ins ins bytes) (sym is) (tt, (generated threads, refl, same ∙ sym whole))

-- what was read of the bytes, or why they are refused
pub as_read : (text : List ℕ) (r : Result (Sections × KernelOf × ℕ) ReadErr) → IsReadAs text r → MatchResult r (λ read. IsRead read text) (IsRefusedAs text)
as_read text (Ok read) h = h
as_read text (Err e) h = h

pub as_upgraded : (text : List ℕ) (r : Result (List ℕ) ReadErr) → IsUpgradedAs text r → MatchResult r (λ new. IsUpgrade new text) (IsRefusedAs text)
as_upgraded text (Ok new) h = h
as_upgraded text (Err e) h = h

module _ {T : Type 0} (Is : T → List ℕ → Type 0) (object : Object) (old new : Inputs) where
  module _ (bytes seen : List ℕ) (s : Result T Fault) where
    -- what is answered of the bytes is answered of the object
    pub read_is : (r : Result T ReadErr) → ReadsBytes object old new bytes → seen ≡ bytes → MatchResult r (λ x. Is x seen) (IsRefusedAs seen)
        → MatchResult r (λ x. s ≡ Ok x) (λ e. IsErrAnd s (λ f. f ≡ fault_of_script e)) → ReadsText Is object old new s
    read_is (Ok x) h same a m = subst (ReadsText Is object old new) (sym m) (h.0, (h.1.0, h.1.1, subst (Is x) (same ∙ h.1.2) a))
    read_is (Err (script.Refused line r)) h same a m = subst (ReadsText Is object old new) (sym (err_and s (fault_of_script (script.Refused line r)) m))
        (h.0, (h.1.0, h.1.1, subst (λ t. IsRefusal t line (Of r)) (same ∙ h.1.2) a))
    read_is (Err (script.TooLarge line)) h same a m = subst (ReadsText Is object old new) (sym (err_and s (fault_of_script (script.TooLarge line)) m))
        (h.0, (h.1.0, h.1.1, subst (λ t. IsRefusal t line Limit) (same ∙ h.1.2) a))
    read_is (Err script.OutOfMemory) h same a m = subst (ReadsText Is object old new) (sym (err_and s fault.OutOfMemory m)) (read_stood object old new h.0)

  -- memory ran out while the bytes were read, or the read failed
  unread_by : (r : Result (Vec ℕ Global) ReadFault) (s : Result (Vec ℕ Global) Fault) (e : Fault) → ObjectCounts object old new r
      → MatchResult r (λ v. s ≡ Ok v) (λ x. IsErrAnd s (λ y. y ≡ fault_of_read x)) → s ≡ Err e → ReadsText Is object old new (Err e)
  unread_by (Ok v) s e counts m is = absurd (ok_not_err s v e m is)
  unread_by (Err read.Failed) s e counts m is = subst (λ f. ReadsText Is object old new (Err f)) (sym (subst (λ t. IsErrAnd t (λ y. y ≡ fault.ReadFault)) is m)) counts
  unread_by (Err read.OutOfMemory) s e counts m is = subst (λ f. ReadsText Is object old new (Err f)) (sym (subst (λ t. IsErrAnd t (λ y. y ≡ fault.OutOfMemory)) is m)) counts

  pub unread_is : (r : Result (Vec ℕ Global) ReadFault) (s : Result (Vec ℕ Global) Fault) (e : Fault) (t : Result T Fault) → ObjectCounts object old new r
      → MatchResult r (λ v. s ≡ Ok v) (λ x. IsErrAnd s (λ y. y ≡ fault_of_read x)) → s ≡ Err e → IsErr t → IsErrAnd t (λ y. y ≡ e) → ReadsText Is object old new t
  unread_is r s e t counts m is h k = subst (ReadsText Is object old new) (sym (err_is t e h k)) (unread_by r s e counts m is)
