-- The posts of a member on a communicator, in their order.
use Rattle.std.proofs.Common.{◌≡◌, ◌⊎◌, ℕ, zero, suc, ◌+◌, ◌-◌, ◌<◌, ◌≤◌, true, false, List}
use Rattle.std.proofs.Common.{[], ◌∷◌, ◌++◌, length, Some, None, refl, sym, ap}
use Rattle.std.proofs.Common.{◌∙◌, subst, arith, slice_get, inl, inr, length-append}
use Rattle.std.specs.Prelude.{Vec, ◌==◌}
use Rattle.std.specs.Global.{Global}
use Rattle.std.proofs.lemmas.Bool.{cases_Bool, cases_lt, and_from, eq-eqb}
use Rattle.std.proofs.lemmas.List.{take_all}
use Rattle.std.proofs.lemmas.Option.{slice_get_within}
use Rattle.run_model.specs.declared.entry.Entry.{Entry}
use Rattle.run_model.specs.Books.{posted, posts_in}
use Rattle.run_model.specs.Posts.{posts_on}
use Rattle.book_report.specs.Held.{posts_to}
use Rattle.book_report.specs.Denials.{IsPartAt}
use Rattle.book_report.specs.Reasons.{is_part}
use Rattle.book_report.specs.Turns.{AreTurns, AreTurnsBelow}
use Rattle.book_report.proofs.HistoryLemmas.{no_posts}
use Rattle.book_report.proofs.PartLemmas.{part_counts, other_counts, part_is}

-- an element of a list with one more is one of the list's, or the one
pub get_push : {A : Type 0} (xs : List A) (x : A) (k : ℕ) (m : A) →
    slice_get (xs ++ x ∷ []) k ≡ Some m → (slice_get xs k ≡ Some m) ⊎ ((k ≡ length xs) × (x ≡ m))
get_push [] x zero m at = inr (refl, (let s : x ≡ m = cc in s))
get_push [] x (suc k) m at = absurd cc
get_push (y ∷ xs) x zero m at = inl at
get_push (y ∷ xs) x (suc k) m at = elim (get_push xs x k m at) [
  | inl old ↦ inl old
  | inr new ↦ inr (ap suc new.0, new.1)
]

-- one more, for what a number is
pub slice_here : {A : Type 0} (xs : List A) (i : ℕ) → i < length xs →
    (x : A) × (slice_get xs i ≡ Some x)
slice_here [] i low = absurd (omega arith)
slice_here (x ∷ xs) zero low = (x, refl)
slice_here (x ∷ xs) (suc i) low = slice_here xs i (omega arith)

-- where there is none, the list is no longer
pub none_there : {A : Type 0} (xs : List A) (i : ℕ) → slice_get xs i ≡ None → length xs ≤ i
none_there [] i none = omega arith
none_there (x ∷ xs) zero none = absurd cc
none_there (x ∷ xs) (suc i) none = let low = none_there xs i none in omega (arith, low)

module _ (entries : List Entry) (p c : ℕ) where
  abbrev made_by : ℕ → ℕ
  made_by n = length (posts_on c p (posts_to entries n))

  pub turns_none : (turns : List ℕ) → turns ≡ [] → AreTurns entries 0 p c turns
  turns_none turns empties = record {
    many = ap (λ (ts : List ℕ). length ts) empties
        ∙ sym (ap (λ ps. length (posts_on c p ps)) (no_posts entries));
    at = λ k m is.
        (let none : slice_get [] k ≡ Some m =
        ap (λ (ts : List ℕ). slice_get ts k) (sym empties) ∙ is in
        absurd (nothing_there k m none));
  }
    where
      nothing_there : (k m : ℕ) → slice_get [] k ≡ Some m → ⊥
      nothing_there zero m e = absurd cc
      nothing_there (suc k) m e = absurd cc

  module _ (n : ℕ) (turns : List ℕ) (are : AreTurns entries n p c turns) (e : Entry)
      (there : slice_get entries n ≡ Some e) where
    pub turns_same : is_part e p c ≡ false → AreTurns entries (n + 1) p c turns
    turns_same is = record {
      many = are.many ∙ sym (other_counts entries n p c e there is);
      at = are.at;
    }

    pub turns_more : is_part e p c ≡ true → AreTurns entries (n + 1) p c (turns ++ (n + 1) ∷ [])
    turns_more is = record {
      many = length-append turns ((n + 1) ∷ [])
          ∙ (ap (λ m. m + 1) are.many ∙ sym (part_counts entries n p c e there is));
      at = λ k m at. elim (get_push turns (n + 1) k m at) [
        | inl old ↦ are.at k m old
        | inr new ↦ subst (λ l. IsPartAt entries l p c k) new.1
            (part_is entries n p c e k there is (sym are.many ∙ sym new.0))
      ];
    }

  -- posts only grow
  made_more : (n : ℕ) → made_by n ≤ made_by (n + 1)
  made_more n = elim (cases_lt n (length entries)) [
    | inl low ↦
        let here = slice_here entries n low in
        elim (cases_Bool (is_part here.0 p c)) [
          | inl t ↦
              let more = part_counts entries n p c here.0 here.1 t in omega (arith, more)
          | inr f ↦
              let same = other_counts entries n p c here.0 here.1 f in omega (arith, same)
        ]
    | inr high ↦
        let same : made_by n ≡ made_by (n + 1) =
        ap (λ es. length (posts_on c p (posts_in es)))
        (take_all n entries high ∙ sym (take_all (n + 1) entries (omega (arith, high)))) in
        omega (arith, same)
  ]

  made_later : (n d : ℕ) → made_by n ≤ made_by (n + d)
  made_later n zero = omega (arith, ap made_by (n_zero n))
    where
      n_zero : (n : ℕ) → n + 0 ≡ n
      n_zero n = omega arith
  made_later n (suc d) =
      let next : n + d + 1 ≡ n + suc d = omega arith in
      let so_far = made_later n d in
      let more = made_more (n + d) in
      let same = ap made_by next in
      omega (arith, so_far, more, same)

  -- a post for an instance is one of those of the whole book
  pub part_within : (n k : ℕ) → IsPartAt entries n p c k → k < made_by (length entries)
  part_within n k is =
      let is_one : is_part (posted is.x) p c ≡ true =
      and_from (is.x.comm == c) (is.x.process == p) (eq-eqb is.x.comm c is.comm)
      (eq-eqb is.x.process p is.by) in
      let more = part_counts entries (n - 1) p c (posted is.x) is.at.entry is_one in
      let kth : made_by (n - 1) ≡ k =
      ap (λ d. length (posts_on d p (posts_to entries (n - 1)))) (sym is.comm)
      ∙ (ap (λ q. length (posts_on is.x.comm q (posts_to entries (n - 1)))) (sym is.by) ∙ is.kth) in
      let low = slice_get_within entries (n - 1) (posted is.x) is.at.entry in
      let rest : n - 1 + 1 + (length entries - (n - 1 + 1)) ≡ length entries =
      omega (arith, low) in
      let later = made_later (n - 1 + 1) (length entries - (n - 1 + 1)) in
      let same = ap made_by rest in
      omega (arith, more, kth, later, same)

-- of no member yet
pub turns_of_none : (entries : List Entry) (c : ℕ) (members : List ℕ)
    (all : List (Vec ℕ Global)) → all ≡ [] → AreTurnsBelow entries c members 0 all
turns_of_none entries c members all empties = record {
  many = ap (λ (vs : List (Vec ℕ Global)). length vs) empties;
  each = λ i p turns member at.
      (let none : slice_get [] i ≡ Some turns =
      ap (λ (vs : List (Vec ℕ Global)). slice_get vs i) (sym empties) ∙ at in
      let low = slice_get_within [] i turns none in absurd (omega (arith, low)));
}

-- one member more
pub turns_of_more : (entries : List Entry) (c : ℕ) (members : List ℕ) (j p : ℕ)
    (all : List (Vec ℕ Global)) (turns : Vec ℕ Global) → slice_get members j ≡ Some p →
    AreTurns entries (length entries) p c turns.items → AreTurnsBelow entries c members j all →
    AreTurnsBelow entries c members (j + 1) (all ++ turns ∷ [])
turns_of_more entries c members j p all turns member are below = record {
  many = length-append all (turns ∷ []) ∙ ap (λ m. m + 1) below.many;
  each = λ i q its there at. elim (get_push all turns i its at) [
    | inl old ↦ below.each i q its there old
    | inr new ↦
        let place : i ≡ j = new.0 ∙ below.many in
        let both : Some q ≡ Some p =
        sym there ∙ (ap (λ m. slice_get members m) place ∙ member) in
        let same : q ≡ p = cc in
        subst (λ (v : Vec ℕ Global). AreTurns entries (length entries) q c v.items) new.1
        (subst (λ m. AreTurns entries (length entries) m c turns.items) (sym same) are)
  ];
}
