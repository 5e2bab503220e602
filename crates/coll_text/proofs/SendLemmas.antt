-- Text that is written out in pieces.
use Rattle.std.proofs.Common.{◌≡◌, ℕ, List, [], ◌++◌, Option, Some, None, refl, sym, ap, subst, ◌∙◌}
use Rattle.std.proofs.Common.{append_assoc}
use Rattle.std.proofs.lemmas.List.{append-nil}
use Rattle.std.specs.Io.KnownBytes.{Appends}
use Rattle.wall_labels.specs.Known.{AppendsPrefix}
use Rattle.wall_labels.proofs.WallLabelsLemmas.{Appends-then}
use Rattle.coll_text.specs.Writing.{Moves}

pub Appends-none : (a : Option (List ℕ)) → Appends a a []
Appends-none None = tt
Appends-none (Some a) = sym (append-nil a)

pub moves_none : (a : Option (List ℕ)) (text : List ℕ) → Moves a a text text
moves_none a text = ([], Appends-none a, refl)

pub moves_all : (a b : Option (List ℕ)) (old new : List ℕ) → Appends a b old → new ≡ [] →
    Moves a b old new
moves_all a b old new h e = (old, h, ap (λ (t : List ℕ). old ++ t) e ∙ append-nil old)

-- the text grows
pub moves_more : (a b : Option (List ℕ)) (old mid new more : List ℕ) → Moves a b old mid →
    new ≡ mid ++ more → Moves a b (old ++ more) new
moves_more a b old mid new more m e = (
  m.0,
  m.1,
  ap (λ (t : List ℕ). m.0 ++ t) e ∙ sym (append_assoc m.0 mid more)
      ∙ ap (λ (t : List ℕ). t ++ more) m.2,
)

pub moves_then : (a b c : Option (List ℕ)) (old mid new : List ℕ) → Moves a b old mid →
    Moves b c mid new → Moves a c old new
moves_then a b c old mid new m n = (
  m.0 ++ n.0,
  Appends-then a b c m.0 n.0 m.1 n.1,
  append_assoc m.0 n.0 new ∙ ap (λ (t : List ℕ). m.0 ++ t) n.2 ∙ m.2,
)

-- nothing more is written
pub moves_stop : (a b : Option (List ℕ)) (old mid more whole : List ℕ) → Moves a b old mid →
    old ++ more ≡ whole → AppendsPrefix a b whole
moves_stop a b old mid more whole m e = (
  m.0,
  mid ++ more,
  sym (append_assoc m.0 mid more) ∙ ap (λ (t : List ℕ). t ++ more) m.2 ∙ e,
  m.1,
)

-- a prefix of what is left is written
pub moves_break : (a b c : Option (List ℕ)) (old mid more whole : List ℕ) → Moves a b old mid →
    AppendsPrefix b c mid → old ++ more ≡ whole → AppendsPrefix a c whole
moves_break a b c old mid more whole m n e = (
  m.0 ++ n.0,
  n.1 ++ more,
  append_assoc m.0 n.0 (n.1 ++ more)
      ∙ ap (λ (t : List ℕ). m.0 ++ t)
      (sym (append_assoc n.0 n.1 more) ∙ ap (λ (t : List ℕ). t ++ more) n.2)
      ∙ sym (append_assoc m.0 mid more) ∙ ap (λ (t : List ℕ). t ++ more) m.2 ∙ e,
  Appends-then a b c m.0 n.0 m.1 n.3,
)

-- all that is left is written
pub moves_end : (a b c : Option (List ℕ)) (old mid whole : List ℕ) → Moves a b old mid →
    Appends b c mid → old ≡ whole → Appends a c whole
moves_end a b c old mid whole m h e =
    subst (Appends a c) (m.2 ∙ e) (Appends-then a b c m.0 mid m.1 h)
