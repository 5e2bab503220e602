-- What a list that is built item by item says, over a list that is walked from its prefix.
use Rattle.std.proofs.Common.{◌≡◌, ℕ, ℤ, ◌+◌, ◌<◌, List, [], ◌∷◌, ◌++◌, length, get_or, drop, map}
use Rattle.std.proofs.Common.{Option, Some, None, refl, sym, ap, ◌∙◌, append_assoc, length-append}
use Rattle.std.proofs.lemmas.List.{drop_more, length-map}
use Rattle.wall_labels.specs.declared.op.Op.{Op}
use Rattle.wall_labels.specs.Ops.{op_of}
use Rattle.wall_policy.specs.Plain.{ClassText, RuleText}
use Rattle.wall_policy.specs.Names.{Name}
use Rattle.wall_policy.specs.Checks.{dataset_names}
use Rattle.wall_policy.specs.Meaning.{class_numbers, natural, with_rule, numbers_in}

pub map_goes_on : {A B : Type 0} (f : A → B) (prefix : List B) (xs : List A) (i : ℕ) (x : A)
    (all : List B) → i < length xs → x ≡ get_or xs i x → prefix ++ map f (drop i xs) ≡ all →
    (prefix ++ f x ∷ []) ++ map f (drop (i + 1) xs) ≡ all
map_goes_on f prefix xs i x all lt same h =
    append_assoc prefix (f x ∷ []) _
    ∙ ap (λ y. prefix ++ f y ∷ map f (drop (i + 1) xs)) same
    ∙ ap (λ ys. prefix ++ map f ys) (sym (drop_more xs i x lt))
    ∙ h

module _ (number : RuleText → ℤ) (prefix : List (Op × ℕ)) (rs : List RuleText) (i : ℕ)
    (r : RuleText) (all : List (Op × ℕ)) (lt : i < length rs) (same : r ≡ get_or rs i r)
    (h : prefix ++ numbers_in number (drop i rs) ≡ all)
  where
    abbrev rest : List (Op × ℕ)
    rest = numbers_in number (drop (i + 1) rs)

    rule_on : prefix ++ with_rule (op_of r.op) (number r) rest ≡ all
    rule_on =
        ap (λ (k : RuleText). prefix ++ with_rule (op_of k.op) (number k) rest) same
        ∙ ap (λ ks. prefix ++ numbers_in number ks) (sym (drop_more rs i r lt))
        ∙ h

    pub named_goes_on : (op : Op) → op_of r.op ≡ Some op →
        (prefix ++ (op, natural (number r)) ∷ []) ++ rest ≡ all
    named_goes_on op named =
        append_assoc prefix ((op, natural (number r)) ∷ []) rest
        ∙ ap (λ (o : Option Op). prefix ++ with_rule o (number r) rest) (sym named)
        ∙ rule_on

    pub unnamed_goes_on : op_of r.op ≡ None → prefix ++ rest ≡ all
    unnamed_goes_on none =
        ap (λ (o : Option Op). prefix ++ with_rule o (number r) rest) (sym none) ∙ rule_on

-- The classes of the datasets.

pub numbers_go_on : (items : List ℕ) (cs : List ClassText) (i id : ℕ) (d : ClassText)
    (words : List Name) (all : List ℕ) → i < length cs → id ≡ i →
    words ≡ (get_or cs i d).datasets
    → items ++ class_numbers i (drop i cs) ≡ all →
    (items ++ map (λ _. id) words) ++ class_numbers (i + 1) (drop (i + 1) cs) ≡ all
numbers_go_on items cs i id d words all lt same named h =
    append_assoc items (map (λ _. id) words) _
    ∙ (λ j. items ++ (map (λ _. same j) (named j) ++ class_numbers (i + 1) (drop (i + 1) cs)))
    ∙ ap (λ ks. items ++ class_numbers i ks) (sym (drop_more cs i d lt))
    ∙ h

pub length-class_numbers : (n : ℕ) (cs : List ClassText) →
    length (class_numbers n cs) ≡ length (dataset_names cs)
length-class_numbers n [] = refl
length-class_numbers n (c ∷ cs) =
    length-append (map (λ _. n) c.datasets) (class_numbers (n + 1) cs)
    ∙ (λ j. length-map c.datasets (λ (_ : Name). n) j + length-class_numbers (n + 1) cs j)
    ∙ sym (length-append c.datasets (dataset_names cs))
