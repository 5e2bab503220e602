-- Words behind separators, and words with separators between them.
use Rattle.std.proofs.Common.{◌≡◌, ℕ, ◌-◌, ◌≤◌, List, [], ◌∷◌, ◌++◌, map, length, take, drop}
use Rattle.std.proofs.Common.{get_or, Result, Ok, Err, OnOk, refl, sym, ap, ◌∙◌, append_assoc}
use Rattle.std.proofs.Common.{arith}
use Rattle.std.specs.List.{join_with_byte}
use Rattle.std.proofs.lemmas.List.{append-nil, take_all, take-append-drop}
use Rattle.std.proofs.Math.Seq.{take-append_seam}
use Rattle.coll_text.specs.Numbers.{Word}
use Rattle.coll_text.specs.Spellings.{list_word}
use Rattle.coll_text.specs.Spaced.{behind_each, behind_comma}
use Rattle.coll_text.specs.Writing.{KeepsPrefix}

pub join_cons : (c : ℕ) (w : Word) (ws : List Word) →
    join_with_byte c (w ∷ ws) ≡ w ++ behind_each c ws
join_cons c w [] = sym (append-nil w)
join_cons c w (v ∷ ws) = ap (λ t. w ++ (c ∷ t)) (join_cons c v ws)

comma_is : {A : Type 0} (f : A → Word) (xs : List A) → behind_each 44 (map f xs) ≡ behind_comma f xs
comma_is f [] = refl
comma_is f (x ∷ xs) = ap (λ t. (44 ∷ f x) ++ t) (comma_is f xs)

pub list_word_cons : {A : Type 0} (f : A → Word) (x : A) (xs : List A) →
    list_word f (x ∷ xs) ≡ f x ++ behind_comma f xs
list_word_cons f x xs = join_cons 44 (f x) (map f xs) ∙ ap (λ t. f x ++ t) (comma_is f xs)

take_whole : {A : Type 0} (x : A) (xs : List A) → take (length (x ∷ xs) - 1) xs ≡ xs
take_whole x xs = take_all (length (x ∷ xs) - 1) xs (omega arith)

-- the first, and the others behind it
pub list_word_parts : {A : Type 0} (f : A → Word) (d : A) (xs : List A) → 1 ≤ length xs →
    list_word f xs ≡ f (get_or xs 0 d) ++ behind_comma f (take (length xs - 1) (drop 1 xs))
list_word_parts f d [] h = absurd (omega arith)
list_word_parts f d (x ∷ xs) h =
    list_word_cons f x xs ∙ ap (λ ys. f x ++ behind_comma f ys) (sym (take_whole x xs))

-- what was put behind what was put before
pub put_behind : {A E : Type 0} (r : Result A E) (old mid new first rest whole : List ℕ) →
    OnOk r (new ≡ mid ++ rest) → mid ≡ old ++ first → whole ≡ first ++ rest →
    OnOk r (new ≡ old ++ whole)
put_behind (Ok x) old mid new first rest whole h g e =
    h ∙ ap (λ t. t ++ rest) g ∙ append_assoc old first rest ∙ ap (λ t. old ++ t) (sym e)
put_behind (Err x) old mid new first rest whole h g e = tt

-- ---- what stands at the front of a text

pub prefix_same : (old new : List ℕ) → new ≡ old → KeepsPrefix old new
prefix_same old new e = ap (take (length old)) e ∙ take_all (length old) old (omega arith)

pub prefix_put : (old new more : List ℕ) → new ≡ old ++ more → KeepsPrefix old new
prefix_put old new more e = ap (take (length old)) e ∙ take-append_seam old more

prefix_back : (old new : List ℕ) → KeepsPrefix old new → old ++ drop (length old) new ≡ new
prefix_back old new f =
    ap (λ (t : List ℕ). t ++ drop (length old) new) (sym f) ∙ take-append-drop (length old) new

pub prefix_then : (old mid new : List ℕ) → KeepsPrefix old mid → KeepsPrefix mid new →
    KeepsPrefix old new
prefix_then old mid new f g =
    let a = prefix_back old mid f in
    let b = prefix_back mid new g in
    prefix_put old new (drop (length old) mid ++ drop (length mid) new)
    (sym b ∙ ap (λ (t : List ℕ). t ++ drop (length mid) new) (sym a)
    ∙ append_assoc old (drop (length old) mid) (drop (length mid) new))

-- with words put between
pub prefix_behind : (old mid new more : List ℕ) → mid ≡ old ++ more → KeepsPrefix mid new →
    KeepsPrefix old new
prefix_behind old mid new more e f = prefix_then old mid new (prefix_put old mid more e) f
