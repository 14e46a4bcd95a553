-- A session begins with the whole content that stands under a name.
use Rattle.std.proofs.Common.{◌≡◌, ℕ, List, [], Bool, true, false, not, codes, if◌then◌else◌, Option, Some, None, sym, refl, subst}
use Rattle.std.specs.Str.{bytes_eq}
use Rattle.pth_checker.specs.Session.{HasHeard, IsWhole}
use Rattle.pth_checker.specs.declared.session.Session.{Session}
use Rattle.pth_streams.specs.Inputs.{Inputs}
use Rattle.pth_filter.specs.Objects.{content_under, is_file, of_read}

whole_by : (b : Bool) (input left held : Option (List ℕ)) → (not b ≡ true → left ≡ held) → (if not b then left else input) ≡ (if b then input else held)
whole_by true input left held h = refl
whole_by false input left held h = h refl

-- what is left of the object that is read is the content that stands under its name
whole_is_content : (name : Option (List ℕ)) (ins : Inputs) (left : Option (List ℕ)) → IsWhole name ins.held left
    → of_read (is_file name) ins.left left ≡ content_under name ins
whole_is_content None ins left h = refl
whole_is_content (Some n) ins left h = whole_by (bytes_eq n (codes "-")) ins.left left (ins.held n) h

-- so a session of it begins with the content
pub heard_whole : (name : Option (List ℕ)) (ins : Inputs) (h : Session) (left : Option (List ℕ)) → IsWhole name ins.held left → h.reader.of_file ≡ is_file name
    → HasHeard (content_under name ins) h (content_under name ins) [] → HasHeard (content_under name ins) h (of_read h.reader.of_file ins.left left) []
heard_whole name ins h left whole file heard =
    subst (λ (b : Bool). HasHeard (content_under name ins) h (of_read b ins.left left) []) (sym file)
    (subst (λ (o : Option (List ℕ)). HasHeard (content_under name ins) h o []) (sym (whole_is_content name ins left whole)) heard)
