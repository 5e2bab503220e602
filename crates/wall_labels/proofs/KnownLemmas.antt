-- Known bytes, through several calls.
use Rattle.std.proofs.Common.{◌≡◌, ℕ, List, ◌++◌, take, drop, Option, Some, None, sym, ap, ◌∙◌}
use Rattle.std.proofs.Common.{append_assoc}
use Rattle.std.proofs.lemmas.List.{take-append-drop}
use Rattle.std.specs.Io.KnownBytes.{Appends, Consumes}

pub Appends-then : (a b c : Option (List ℕ)) (xs ys : List ℕ) → Appends a b xs → Appends b c ys →
    Appends a c (xs ++ ys)
Appends-then None b c xs ys p q = tt
Appends-then (Some a) None c xs ys p q = absurd p
Appends-then (Some a) (Some b) None xs ys p q = absurd q
Appends-then (Some a) (Some b) (Some c) xs ys p q =
    q ∙ ap (λ (t : List ℕ). t ++ ys) p ∙ append_assoc a xs ys

pub Consumes-then : (a b c : Option (List ℕ)) (xs ys : List ℕ) → Consumes a b xs → Consumes b c ys →
    Consumes a c (xs ++ ys)
Consumes-then None b c xs ys p q = tt
Consumes-then (Some a) None c xs ys p q = absurd p
Consumes-then (Some a) (Some b) None xs ys p q = absurd q
Consumes-then (Some a) (Some b) (Some c) xs ys p q =
    p ∙ ap (λ (t : List ℕ). xs ++ t) q ∙ sym (append_assoc xs ys c)

-- a prefix of the bytes was written, and this is the rest
abbrev pub Wrote : Option (List ℕ) → Option (List ℕ) → List ℕ → List ℕ → Type 0
Wrote old new bytes rest = (prefix : List ℕ) × (prefix ++ rest ≡ bytes) × Appends old new prefix

pub wrote_more : (old mid new : Option (List ℕ)) (bytes rest after : List ℕ) (n : ℕ) →
    Wrote old mid bytes rest → Appends mid new (take n rest) → after ≡ drop n rest →
    Wrote old new bytes after
wrote_more old mid new bytes rest after n w a e = (
  w.0 ++ take n rest,
  append_assoc w.0 (take n rest) after ∙ ap (λ (t : List ℕ). w.0 ++ (take n rest ++ t)) e
      ∙ ap (λ (t : List ℕ). w.0 ++ t) (take-append-drop n rest) ∙ w.1,
  Appends-then old mid new w.0 (take n rest) w.2 a,
)
