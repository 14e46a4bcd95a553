-- Texts taken one after another.
use Rattle.std.proofs.Common.{◌≡◌, ◌∙◌, ℕ, List, [], ◌++◌, Option, Some, None, ap, sym, refl, append_assoc, append-nil}
use Rattle.std.specs.Io.KnownBytes.{Consumes, IsAtEnd}
use Rattle.pth_streams.specs.Inputs.{AreHeld}
use Rattle.pth_transcript.specs.Taking.{Ahead, IsOver, Takes, ahead}

-- three texts after one
pub joined : (old one two three a b c : List ℕ) → one ≡ old ++ a → two ≡ one ++ b → three ≡ two ++ c → three ≡ old ++ (a ++ (b ++ c))
joined old one two three a b c p q r =
    r ∙ ap (λ (l : List ℕ). l ++ c) (q ∙ ap (λ (l : List ℕ). l ++ b) p) ∙ append_assoc (old ++ a) b c ∙ append_assoc old a (b ++ c)

-- ---- what is consumed

consumes_none : (a : Option (List ℕ)) → Consumes a a []
consumes_none None = tt
consumes_none (Some xs) = refl

pub consumes_then : (a b c : Option (List ℕ)) (xs ys : List ℕ) → Consumes a b xs → Consumes b c ys → Consumes a c (xs ++ ys)
consumes_then None b c xs ys p q = tt
consumes_then (Some zs) None c xs ys p q = absurd p
consumes_then (Some zs) (Some us) None xs ys p q = absurd q
consumes_then (Some zs) (Some us) (Some vs) xs ys p q = p ∙ ap (λ (l : List ℕ). xs ++ l) q ∙ sym (append_assoc xs ys vs)

-- ---- what is taken

-- nothing was taken
pub takes_none : (a : Ahead) → Takes a a []
takes_none a = record { read = []; consumed = consumes_none a.left; taken = append-nil a.unread }

-- one text after another
pub takes_then : (a b c : Ahead) (text more : List ℕ) → Takes a b text → Takes b c more → Takes a c (text ++ more)
takes_then a b c text more p q = record {
  read = p.read ++ q.read;
  consumed = consumes_then a.left b.left c.left p.read q.read p.consumed q.consumed;
  taken = sym (append_assoc a.unread p.read q.read) ∙ ap (λ (l : List ℕ). l ++ q.read) p.taken
      ∙ append_assoc text b.unread q.read ∙ ap (λ (l : List ℕ). text ++ l) q.taken ∙ sym (append_assoc text more c.unread);
}

-- ---- the content of what is read

held_whole : (content after : Option (List ℕ)) (read text : List ℕ) → Consumes content after read → IsAtEnd after → read ≡ text
    → (bytes : List ℕ) × AreHeld content bytes × (bytes ≡ text)
held_whole None after read text p end e = (text, tt, refl)
held_whole (Some xs) None read text p end e = absurd p
held_whole (Some xs) (Some ys) read text p end e =
    (xs, refl, p ∙ ap (λ (l : List ℕ). read ++ l) end ∙ append-nil read ∙ e)

-- if nothing comes any more, the content is what was taken of it
pub whole : (content : Option (List ℕ)) (c d : Ahead) (text : List ℕ) → Takes (ahead [] content) c text → IsOver c d
    → (bytes : List ℕ) × AreHeld content bytes × (bytes ≡ text)
whole content c d text p over =
    let all = takes_then (ahead [] content) c d text [] p over.takes in
    held_whole content d.left all.read text all.consumed over.left (all.taken ∙ ap (λ (l : List ℕ). (text ++ []) ++ l) over.unread ∙ append-nil (text ++ []) ∙ append-nil text)

held_front : (content after : Option (List ℕ)) (read text unread : List ℕ) → Consumes content after read → read ≡ text ++ unread
    → (bytes : List ℕ) × (rest : List ℕ) × AreHeld content bytes × (bytes ≡ text ++ rest)
held_front None after read text unread p e = (text, [], tt, sym (append-nil text))
held_front (Some xs) None read text unread p e = absurd p
held_front (Some xs) (Some ys) read text unread p e =
    (xs, unread ++ ys, refl, p ∙ ap (λ (l : List ℕ). l ++ ys) e ∙ append_assoc text unread ys)

-- the content begins with what was taken of it
pub front : (content : Option (List ℕ)) (c : Ahead) (text : List ℕ) → Takes (ahead [] content) c text
    → (bytes : List ℕ) × (rest : List ℕ) × AreHeld content bytes × (bytes ≡ text ++ rest)
front content c text p = held_front content c.left p.read text c.unread p.consumed p.taken
