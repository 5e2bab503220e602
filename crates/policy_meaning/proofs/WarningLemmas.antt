-- No two warnings of one policy have one place.
use Rattle.std.proofs.Common.{◌≡◌, ℕ, zero, suc, ◌+◌, ◌*◌, ◌<◌, ◌≤◌, List, length, Some, get_or}
use Rattle.std.proofs.Common.{refl}
use Rattle.std.proofs.Common.{arith, sym, ap, slice_get, subst, [], ◌∷◌, ◌++◌}
use Rattle.std.specs.Prelude.{Contains}
use Rattle.std.proofs.lemmas.List.Elements.{All-contains}
use Rattle.wall_labels.specs.declared.op.Op.TheVariants.{Max}
use Rattle.wall_labels.specs.Ops.{op_number, all_ops}
use Rattle.wall_policy.specs.Policy.{ChineseWall, IsPolicy}
use Rattle.policy_meaning.specs.declared.warning.Doubt.{Doubt}
use Rattle.policy_meaning.specs.declared.warning.Doubt.TheVariants.{TooFewProcesses}
use Rattle.policy_meaning.specs.declared.warning.Doubt.TheVariants.{TooFewDatasets, TellsOneFigure}
use Rattle.policy_meaning.specs.declared.warning.Doubt.TheVariants.{ShowsThrough, TwoContributors}
use Rattle.policy_meaning.specs.declared.warning.Doubt.TheVariants.{FewDatasets, BelowAsked}
use Rattle.policy_meaning.specs.declared.warning.Warning.{Warning}
use Rattle.policy_meaning.specs.declared.warning.Warning.TheVariants.{NothingSanitised}
use Rattle.policy_meaning.specs.declared.warning.Warning.TheVariants.{OfOperation, NoRival}
use Rattle.policy_meaning.specs.declared.warning.Warning.TheVariants.{NobodysHome, AnyLabel}
use Rattle.policy_meaning.specs.Warnings.{Warns, doubt_number, warning_place}
use Rattle.policy_meaning.specs.Known.{IsKnownWarning}
use Rattle.policy_meaning.specs.Listed.{AreListed}
use Rattle.policy_meaning.proofs.ListedLemmas.{listed_more, listed_past}
use Rattle.policy_meaning.proofs.FactLemmas.{op_is, op_number_below}

abbrev pub all_doubts : List Doubt
all_doubts =
    TooFewProcesses ∷ TooFewDatasets ∷ TellsOneFigure ∷ ShowsThrough ∷ TwoContributors ∷ FewDatasets
    ∷ BelowAsked ∷ []

doubt_back : (x : Doubt) → slice_get all_doubts (doubt_number x) ≡ Some x
doubt_back TooFewProcesses = refl
doubt_back TooFewDatasets = refl
doubt_back TellsOneFigure = refl
doubt_back ShowsThrough = refl
doubt_back TwoContributors = refl
doubt_back FewDatasets = refl
doubt_back BelowAsked = refl

doubt_is : (x y : Doubt) → doubt_number x ≡ doubt_number y → x ≡ y
doubt_is x y e =
    let one = doubt_back x in let two = doubt_back y in let same = ap (slice_get all_doubts) e in cc

pub doubt_number_below : (x : Doubt) → doubt_number x < 7
doubt_number_below TooFewProcesses = omega arith
doubt_number_below TooFewDatasets = omega arith
doubt_number_below TellsOneFigure = omega arith
doubt_number_below ShowsThrough = omega arith
doubt_number_below TwoContributors = omega arith
doubt_number_below FewDatasets = omega arith
doubt_number_below BelowAsked = omega arith

pub doubt_at : (i : ℕ) → i < 7 → doubt_number (get_or all_doubts i TooFewProcesses) ≡ i
doubt_at zero lt = refl
doubt_at (suc zero) lt = refl
doubt_at (suc (suc zero)) lt = refl
doubt_at (suc (suc (suc zero))) lt = refl
doubt_at (suc (suc (suc (suc zero)))) lt = refl
doubt_at (suc (suc (suc (suc (suc zero))))) lt = refl
doubt_at (suc (suc (suc (suc (suc (suc zero)))))) lt = refl
doubt_at (suc (suc (suc (suc (suc (suc (suc i))))))) lt = absurd (omega arith)

pub op_at : (i : ℕ) → i < 12 → op_number (get_or all_ops i Max) ≡ i
op_at zero lt = refl
op_at (suc zero) lt = refl
op_at (suc (suc zero)) lt = refl
op_at (suc (suc (suc zero))) lt = refl
op_at (suc (suc (suc (suc zero)))) lt = refl
op_at (suc (suc (suc (suc (suc zero))))) lt = refl
op_at (suc (suc (suc (suc (suc (suc zero)))))) lt = refl
op_at (suc (suc (suc (suc (suc (suc (suc zero))))))) lt = refl
op_at (suc (suc (suc (suc (suc (suc (suc (suc zero)))))))) lt = refl
op_at (suc (suc (suc (suc (suc (suc (suc (suc (suc zero))))))))) lt = refl
op_at (suc (suc (suc (suc (suc (suc (suc (suc (suc (suc zero)))))))))) lt = refl
op_at (suc (suc (suc (suc (suc (suc (suc (suc (suc (suc (suc zero))))))))))) lt = refl
op_at (suc (suc (suc (suc (suc (suc (suc (suc (suc (suc (suc (suc i)))))))))))) lt =
    absurd (omega arith)

-- what is due is of the policy
pub known : (wall : ChineseWall) (w : Warning) → Warns wall w → IsKnownWarning wall w
known wall NothingSanitised h = tt
known wall (OfOperation op doubt) h = tt
known wall (NoRival d) h = h.0
known wall (NobodysHome d) h = h.0
known wall (AnyLabel p) h = h.0

-- two warnings with one place are one
pub one_at_place : (wall : ChineseWall) (a b : Warning) → IsPolicy wall → IsKnownWarning wall a →
    IsKnownWarning wall b → warning_place a ≡ warning_place b → a ≡ b
one_at_place wall NothingSanitised NothingSanitised policy h k e = refl
one_at_place wall NothingSanitised (OfOperation op2 doubt2) policy h k e =
    absurd (omega (arith, policy.few_datasets, op_number_below op2, doubt_number_below doubt2))
one_at_place wall NothingSanitised (NoRival d2) policy h k e =
    absurd (omega (arith, policy.few_datasets))
one_at_place wall NothingSanitised (NobodysHome d2) policy h k e =
    absurd (omega (arith, policy.few_datasets))
one_at_place wall NothingSanitised (AnyLabel p2) policy h k e =
    absurd (omega (arith, policy.few_datasets))
one_at_place wall (OfOperation op doubt) NothingSanitised policy h k e =
    absurd (omega (arith, policy.few_datasets, op_number_below op, doubt_number_below doubt))
one_at_place wall (OfOperation op doubt) (OfOperation op2 doubt2) policy h k e =
    let low = doubt_number_below doubt in
    let low2 = doubt_number_below doubt2 in
    let op_same : op_number op ≡ op_number op2 = omega arith in
    let doubt_same : doubt_number doubt ≡ doubt_number doubt2 = omega arith in
    let one = op_is op op2 op_same in let two = doubt_is doubt doubt2 doubt_same in cc
one_at_place wall (OfOperation op doubt) (NoRival d2) policy h k e =
    absurd (omega (arith, policy.few_datasets, op_number_below op, doubt_number_below doubt))
one_at_place wall (OfOperation op doubt) (NobodysHome d2) policy h k e =
    absurd (omega (arith, policy.few_datasets, op_number_below op, doubt_number_below doubt))
one_at_place wall (OfOperation op doubt) (AnyLabel p2) policy h k e =
    absurd (omega (arith, policy.few_datasets, op_number_below op, doubt_number_below doubt))
one_at_place wall (NoRival d) NothingSanitised policy h k e =
    absurd (omega (arith, policy.few_datasets))
one_at_place wall (NoRival d) (OfOperation op2 doubt2) policy h k e =
    absurd (omega (arith, policy.few_datasets, op_number_below op2, doubt_number_below doubt2))
one_at_place wall (NoRival d) (NoRival d2) policy h k e = ap (λ (n : ℕ). NoRival n) (omega arith)
one_at_place wall (NoRival d) (NobodysHome d2) policy h k e =
    absurd (omega (arith, policy.few_datasets))
one_at_place wall (NoRival d) (AnyLabel p2) policy h k e =
    absurd (omega (arith, policy.few_datasets))
one_at_place wall (NobodysHome d) NothingSanitised policy h k e =
    absurd (omega (arith, policy.few_datasets))
one_at_place wall (NobodysHome d) (OfOperation op2 doubt2) policy h k e =
    absurd (omega (arith, policy.few_datasets, op_number_below op2, doubt_number_below doubt2))
one_at_place wall (NobodysHome d) (NoRival d2) policy h k e =
    absurd (omega (arith, policy.few_datasets))
one_at_place wall (NobodysHome d) (NobodysHome d2) policy h k e =
    ap (λ (n : ℕ). NobodysHome n) (omega arith)
one_at_place wall (NobodysHome d) (AnyLabel p2) policy h k e =
    absurd (omega (arith, policy.few_datasets))
one_at_place wall (AnyLabel p) NothingSanitised policy h k e =
    absurd (omega (arith, policy.few_datasets))
one_at_place wall (AnyLabel p) (OfOperation op2 doubt2) policy h k e =
    absurd (omega (arith, policy.few_datasets, op_number_below op2, doubt_number_below doubt2))
one_at_place wall (AnyLabel p) (NoRival d2) policy h k e =
    absurd (omega (arith, policy.few_datasets))
one_at_place wall (AnyLabel p) (NobodysHome d2) policy h k e =
    absurd (omega (arith, policy.few_datasets))
one_at_place wall (AnyLabel p) (AnyLabel p2) policy h k e = ap (λ (n : ℕ). AnyLabel n) (omega arith)

---- the list of the warnings, step by step

abbrev pub AreWarnings : ChineseWall → List Warning → (n : ℕ) → Type 0
AreWarnings wall xs n = AreListed (Warns wall) warning_place xs n

-- it grows by the warning that stands at the place, if that is due
pub add_warning : (wall : ChineseWall) (xs : List Warning) (w : Warning) → IsPolicy wall →
    AreWarnings wall xs (warning_place w) → Warns wall w →
    AreWarnings wall (xs ++ w ∷ []) (warning_place w + 1)
add_warning wall xs w policy listed due =
    listed_more (Warns wall) warning_place xs w (warning_place w) listed due refl
    (λ v other place.
    one_at_place wall w v policy (known wall w due) (known wall v other) (sym place))

pub past_warning : (wall : ChineseWall) (xs : List Warning) (w : Warning) → IsPolicy wall →
    IsKnownWarning wall w → AreWarnings wall xs (warning_place w) → ¬ (Warns wall w) →
    AreWarnings wall xs (warning_place w + 1)
past_warning wall xs w policy is_known listed none =
    listed_past (Warns wall) warning_place xs (warning_place w) (warning_place w + 1) listed
    (omega arith)
    (λ v due low high.
    let same : warning_place v ≡ warning_place w = omega arith in
    none (subst (Warns wall)
    (one_at_place wall v w policy (known wall v due) is_known same) due))

-- No warning stands behind those of the last dataset, and of the last process.

none_without_rival : (wall : ChineseWall) (w : Warning) → IsKnownWarning wall w →
    85 + length wall.dataset_names ≤ warning_place w → warning_place w < 1109 → ⊥
none_without_rival wall NothingSanitised h low high = omega arith
none_without_rival wall (OfOperation op doubt) h low high =
    let one = op_number_below op in let two = doubt_number_below doubt in omega arith
none_without_rival wall (NoRival d) h low high = omega arith
none_without_rival wall (NobodysHome d) h low high = omega arith
none_without_rival wall (AnyLabel p) h low high = omega arith

pub past_without_rival : (wall : ChineseWall) (xs : List Warning) (n : ℕ) →
    AreWarnings wall xs (85 + n) → length wall.dataset_names ≤ n → n ≤ 1024 →
    AreWarnings wall xs 1109
past_without_rival wall xs n listed all few =
    listed_past (Warns wall) warning_place xs (85 + n) 1109 listed (omega arith)
    (λ w due low high. none_without_rival wall w (known wall w due) (omega arith) high)

none_nobodys : (wall : ChineseWall) (w : Warning) → IsPolicy wall → IsKnownWarning wall w →
    1109 + length wall.dataset_names ≤ warning_place w → warning_place w < 2133 → ⊥
none_nobodys wall NothingSanitised policy h low high = omega arith
none_nobodys wall (OfOperation op doubt) policy h low high =
    let one = op_number_below op in let two = doubt_number_below doubt in omega arith
none_nobodys wall (NoRival d) policy h low high = let few = policy.few_datasets in omega arith
none_nobodys wall (NobodysHome d) policy h low high = omega arith
none_nobodys wall (AnyLabel p) policy h low high = omega arith

pub past_nobodys : (wall : ChineseWall) (xs : List Warning) (n : ℕ) → IsPolicy wall →
    AreWarnings wall xs (1109 + n) → length wall.dataset_names ≤ n → n ≤ 1024 →
    AreWarnings wall xs 2133
past_nobodys wall xs n policy listed all few =
    listed_past (Warns wall) warning_place xs (1109 + n) 2133 listed (omega arith)
    (λ w due low high. none_nobodys wall w policy (known wall w due) (omega arith) high)

-- every warning stands below this
last : (wall : ChineseWall) (w : Warning) → IsPolicy wall → IsKnownWarning wall w →
    warning_place w < 2133 + length wall.process_names
last wall NothingSanitised policy h = omega arith
last wall (OfOperation op doubt) policy h =
    let one = op_number_below op in let two = doubt_number_below doubt in omega arith
last wall (NoRival d) policy h = let few = policy.few_datasets in omega arith
last wall (NobodysHome d) policy h = let few = policy.few_datasets in omega arith
last wall (AnyLabel p) policy h = omega arith

pub past_all : (wall : ChineseWall) (xs : List Warning) (n : ℕ) → IsPolicy wall →
    AreWarnings wall xs (2133 + n) → length wall.process_names ≤ n → n ≤ 256 →
    AreWarnings wall xs 2389
past_all wall xs n policy listed all few =
    listed_past (Warns wall) warning_place xs (2133 + n) 2389 listed (omega arith)
    (λ w due low high. let place = last wall w policy (known wall w due) in omega arith)

pub all_warnings : (wall : ChineseWall) (xs : List Warning) → IsPolicy wall →
    AreWarnings wall xs 2389 →
    (w : Warning) → (Contains xs w → Warns wall w) × (Warns wall w → Contains xs w)
all_warnings wall xs policy listed w = (
  λ has. All-contains (Warns wall) xs w listed.sound has,
  λ due. listed.whole w due
      (let place = last wall w policy (known wall w due) in
      let few = policy.few_processes in omega arith),
)
