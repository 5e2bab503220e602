-- The line of a sign, and where TOML ends.
use Rattle.std.proofs.Common.{◌≡◌, ℕ, ◌+◌, ◌-◌, ◌<◌, ◌≤◌, Bool, true, false, List, []}
use Rattle.std.proofs.Common.{◌∷◌, length, take, Option, Some, None, sym, ap, ◌∙◌, subst}
use Rattle.std.proofs.Common.{arith, get_or, inl, inr}
use Rattle.std.proofs.Common.{cond, nat_eq, eq-eqb}
use Rattle.std.specs.Prelude.{is_some, find}
use Rattle.std.specs.Str.Lossy.{utf8_valid_len}
use Rattle.std.proofs.lemmas.Bool.{cases_lt, cases_Bool}
use Rattle.std.proofs.lemmas.Option.{slice_get-get_or}
use Rattle.std.proofs.lemmas.Str.{utf8_valid_len-IsUtf8, IsUtf8-nil}
use Rattle.toml.specs.Data.{Members, no_members}
use Rattle.toml.specs.Parse.{parse_document}
use Rattle.toml.proofs.OnLiterals.{toml_on_literals}
use Rattle.wall_policy.specs.Answer.{tree_of, in_tree}
use Rattle.wall_policy.specs.declared.fault.PolicyFault.{PolicyFault}
use Rattle.policy_places.specs.declared.sign.Sign.{Sign}
use Rattle.policy_places.specs.Prefixes.{prefix}
use Rattle.policy_places.specs.Ends.{AreEnds}
use Rattle.policy_places.specs.Signs.{Known, known_of, shows, signs_of, sign_of}
use Rattle.policy_places.specs.Places.{IsFirst, prefix_shows, EndsToml}

-- an empty text is a document
nothing_is_toml : tree_of [] ≡ Some no_members
unfolding toml_on_literals tree_of
nothing_is_toml =
    let whole : nat_eq (utf8_valid_len []) 0 ≡ true =
    eq-eqb (utf8_valid_len []) 0 (utf8_valid_len-IsUtf8 [] IsUtf8-nil) in
    ap (λ b. cond b (parse_document []) None) whole

-- what is found passes
pub found_passes : {X : Type 0} (test : X → Bool) (xs : List X) (x : X) → find test xs ≡ Some x →
    test x ≡ true
found_passes test [] x h = absurd cc
found_passes test (y ∷ ys) x h = elim (cases_Bool (test y)) [
  | inl passes ↦
      let same : Some y ≡ Some x = sym (ap (λ b. cond b (Some y) (find test ys)) passes) ∙ h in
      let is : y ≡ x = cc in
      ap test (sym is) ∙ passes
  | inr fails ↦ found_passes test ys x (sym (ap (λ b. cond b (Some y) (find test ys)) fails) ∙ h)
]

-- the whole document shows its sign
pub shown_by_all : (text : List ℕ) (whole : Members) (fault : PolicyFault) (known : Known)
    (sign : Sign) → tree_of text ≡ Some whole → known ≡ known_of whole →
    sign_of whole fault ≡ Some sign → in_tree (shows known sign) (tree_of text) ≡ true
unfolding sign_of
shown_by_all text whole fault known sign read is found =
    ap (in_tree (shows known sign)) read
    ∙ ap (λ (k : Known). shows k sign whole) is
    ∙ found_passes (λ s. shows (known_of whole) s whole) (signs_of fault) sign found

-- the bytes up to the end of line n are the first n lines
pub prefix_is : (text ends : List ℕ) → AreEnds text ends → (n : ℕ) → 1 ≤ n → n ≤ length ends →
    take (get_or ends (n - 1) 0) text ≡ prefix n text
prefix_is text ends all n some most =
    let same : n - 1 + 1 ≡ n = omega arith in
    subst (λ j. take (get_or ends (n - 1) 0) text ≡ prefix j text) same
    (all.prefixes (n - 1) (get_or ends (n - 1) 0) (slice_get-get_or ends (n - 1) 0 (omega arith)))

pub end_within : (text ends : List ℕ) → AreEnds text ends → (n : ℕ) → 1 ≤ n → n ≤ length ends →
    get_or ends (n - 1) 0 ≤ length text
end_within text ends all n some most =
    all.within (n - 1) (get_or ends (n - 1) 0) (slice_get-get_or ends (n - 1) 0 (omega arith))

module _ (text : List ℕ) where
  -- one line fewer is no TOML either
  pub behind_more : (n : ℕ) → tree_of (prefix n text) ≡ None →
      ((m : ℕ) → n < m → tree_of (prefix m text) ≡ None) →
      (m : ℕ) → n - 1 < m → tree_of (prefix m text) ≡ None
  behind_more n refused behind m low = elim (cases_lt n m) [
    | inl later ↦ behind m later
    | inr here ↦ elim (cases_lt m n) [
      | inl less ↦ absurd (omega arith)
      | inr same ↦
          let is : n ≡ m = omega arith in
          subst (λ j. tree_of (prefix j text) ≡ None) is refused
    ]
  ]

  pub ends_here : (n : ℕ) → is_some (tree_of (prefix n text)) ≡ true →
      ((m : ℕ) → n < m → tree_of (prefix m text) ≡ None) → EndsToml text (n + 1)
  ends_here n read behind =
      let same : n ≡ n + 1 - 1 = omega arith in
      record {
        counted = omega arith;
        before = subst (λ j. is_some (tree_of (prefix j text)) ≡ true) same read;
        behind = λ m low. behind m (omega arith);
      }

  pub ends_at_once : ((m : ℕ) → 0 < m → tree_of (prefix m text) ≡ None) → EndsToml text 1
  ends_at_once behind = record {
    counted = omega arith;
    before = ap (λ (o : Option Members). is_some o) nothing_is_toml;
    behind = λ m low. behind m (omega arith);
  }

  module _ (known : Known) (sign : Sign) where
    pub not_before_more : (n : ℕ) →
        ((m : ℕ) → 1 ≤ m → m < n → prefix_shows text known sign m ≡ false) →
        prefix_shows text known sign n ≡ false →
        (m : ℕ) → 1 ≤ m → m < n + 1 → prefix_shows text known sign m ≡ false
    not_before_more n before here m counted low = elim (cases_lt m n) [
      | inl earlier ↦ before m counted earlier
      | inr now ↦
          let same : n ≡ m = omega arith in
          subst (λ j. prefix_shows text known sign j ≡ false) same here
    ]
