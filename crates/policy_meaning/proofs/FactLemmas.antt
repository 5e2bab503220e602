-- No two facts of one policy have one place.
use Rattle.std.proofs.Common.{◌≡◌, ℕ, ◌+◌, ◌*◌, ◌<◌, ◌≤◌, List, length, Option, Some, None, refl}
use Rattle.std.proofs.Common.{arith, sym, ◌∙◌, ap, slice_get, subst, [], ◌∷◌, ◌++◌}
use Rattle.std.specs.Prelude.{Contains}
use Rattle.std.proofs.lemmas.List.Elements.{All-contains}
use Rattle.std.proofs.lemmas.Option.{slice_get_within}
use Rattle.wall_labels.specs.declared.op.Op.{Op}
use Rattle.wall_labels.specs.declared.op.Op.TheVariants.{Max, Min, Sum, Prod, Land, Lor, Lxor, Band}
use Rattle.wall_labels.specs.declared.op.Op.TheVariants.{Bor, Bxor, Maxloc, Minloc}
use Rattle.wall_labels.specs.Ops.{op_number, all_ops}
use Rattle.wall_policy.specs.Policy.{ChineseWall, IsPolicy, home_if_any, home_of}
use Rattle.wall_policy.specs.Policy.{least_of}
use Rattle.wall_policy.specs.Policy.{distinct_of}
use Rattle.policy_meaning.specs.declared.fact.Fact.{Fact}
use Rattle.policy_meaning.specs.declared.fact.Fact.TheVariants.{HasClass, AtHome, NoHome}
use Rattle.policy_meaning.specs.declared.fact.Fact.TheVariants.{KeptApart, SanitisedFrom}
use Rattle.policy_meaning.specs.Facts.{IsFact, fact_place}
use Rattle.policy_meaning.specs.Known.{IsKnownFact}
use Rattle.policy_meaning.specs.Listed.{AreListed}
use Rattle.policy_meaning.proofs.ListedLemmas.{listed_more, listed_past}

---- numbers of operations

pub op_number_below : (op : Op) → op_number op < 12
op_number_below Max = omega arith
op_number_below Min = omega arith
op_number_below Sum = omega arith
op_number_below Prod = omega arith
op_number_below Land = omega arith
op_number_below Lor = omega arith
op_number_below Lxor = omega arith
op_number_below Band = omega arith
op_number_below Bor = omega arith
op_number_below Bxor = omega arith
op_number_below Maxloc = omega arith
op_number_below Minloc = omega arith

pub op_back : (op : Op) → slice_get all_ops (op_number op) ≡ Some op
op_back Max = refl
op_back Min = refl
op_back Sum = refl
op_back Prod = refl
op_back Land = refl
op_back Lor = refl
op_back Lxor = refl
op_back Band = refl
op_back Bor = refl
op_back Bxor = refl
op_back Maxloc = refl
op_back Minloc = refl

pub op_is : (op other : Op) → op_number op ≡ op_number other → op ≡ other
op_is op other e =
    let one = op_back op in let two = op_back other in let same = ap (slice_get all_ops) e in cc

---- homes and classes are of processes and datasets

pub home_within : (homes : List (Option ℕ)) (p d : ℕ) → home_if_any (slice_get homes p) ≡ Some d →
    p < length homes
home_within homes p d h = elim (slice_get homes p) as (λ o. slice_get homes p ≡ o →
    home_if_any o ≡ Some d → p < length homes) [
      | None ↦ λ at e. absurd cc
      | Some home ↦ λ at e. slice_get_within homes p home at
    ] refl h

pub home_known : (wall : ChineseWall) (p d : ℕ) → IsPolicy wall → home_of wall p ≡ Some d →
    p < length wall.process_names
home_known wall p d policy h =
    let within = home_within wall.homes p d h in omega (arith, within, policy.home_for_each)

---- where facts stand

abbrev pub Stands : ChineseWall → Fact → Type 0
Stands wall (HasClass class) = class < length wall.class_names
Stands wall (AtHome p d) = p < length wall.process_names
Stands wall (NoHome p) = p < length wall.process_names
Stands wall (KeptApart p q) =
    (p < q) × (p < length wall.process_names) × (q < length wall.process_names)
Stands wall (SanitisedFrom op least distinct) = op_number op < 12

pub stands : (wall : ChineseWall) (f : Fact) → IsPolicy wall → IsFact wall f → Stands wall f
stands wall (HasClass class) policy h = h
stands wall (AtHome p d) policy h = home_known wall p d policy h
stands wall (NoHome p) policy h = h.0
stands wall (KeptApart p q) policy h = (
  h.0,
  home_known wall p h.1.left policy h.1.left_home,
  home_known wall q h.1.right policy h.1.right_home,
)
stands wall (SanitisedFrom op least distinct) policy h = op_number_below op

-- two facts with one place are one
pub one_at_place : (wall : ChineseWall) (a b : Fact) → IsPolicy wall → IsFact wall a →
    IsFact wall b → fact_place a ≡ fact_place b → a ≡ b
one_at_place wall (HasClass c) (HasClass c2) policy h k e =
    let same : c ≡ c2 = e in cc
one_at_place wall (HasClass c) (AtHome p2 d2) policy h k e =
    let one = stands wall (HasClass c) policy h in
    let two = stands wall (AtHome p2 d2) policy k in
    let few = policy.few_processes in let low = policy.few_classes in absurd (omega arith)
one_at_place wall (HasClass c) (NoHome p2) policy h k e =
    let one = stands wall (HasClass c) policy h in
    let two = stands wall (NoHome p2) policy k in
    let few = policy.few_processes in let low = policy.few_classes in absurd (omega arith)
one_at_place wall (HasClass c) (KeptApart p2 q2) policy h k e =
    let one = stands wall (HasClass c) policy h in
    let two = stands wall (KeptApart p2 q2) policy k in
    let few = policy.few_processes in let low = policy.few_classes in absurd (omega arith)
one_at_place wall (HasClass c) (SanitisedFrom op2 l2 n2) policy h k e =
    let one = stands wall (HasClass c) policy h in
    let two = stands wall (SanitisedFrom op2 l2 n2) policy k in
    let few = policy.few_processes in let low = policy.few_classes in absurd (omega arith)
one_at_place wall (AtHome p d) (HasClass c2) policy h k e =
    let one = stands wall (AtHome p d) policy h in
    let two = stands wall (HasClass c2) policy k in
    let few = policy.few_processes in let low = policy.few_classes in absurd (omega arith)
one_at_place wall (AtHome p d) (AtHome p2 d2) policy h k e =
    let same : p ≡ p2 = omega arith in
    let here = ap (home_of wall) same in
    let home : d ≡ d2 = cc in cc
one_at_place wall (AtHome p d) (NoHome p2) policy h k e =
    let same : p ≡ p2 = omega arith in
    let here = ap (home_of wall) same in absurd cc
one_at_place wall (AtHome p d) (KeptApart p2 q2) policy h k e =
    let one = stands wall (AtHome p d) policy h in
    let two = stands wall (KeptApart p2 q2) policy k in
    let few = policy.few_processes in let low = policy.few_classes in absurd (omega arith)
one_at_place wall (AtHome p d) (SanitisedFrom op2 l2 n2) policy h k e =
    let one = stands wall (AtHome p d) policy h in
    let two = stands wall (SanitisedFrom op2 l2 n2) policy k in
    let few = policy.few_processes in let low = policy.few_classes in absurd (omega arith)
one_at_place wall (NoHome p) (HasClass c2) policy h k e =
    let one = stands wall (NoHome p) policy h in
    let two = stands wall (HasClass c2) policy k in
    let few = policy.few_processes in let low = policy.few_classes in absurd (omega arith)
one_at_place wall (NoHome p) (AtHome p2 d2) policy h k e =
    let same : p ≡ p2 = omega arith in
    let here = ap (home_of wall) same in absurd cc
one_at_place wall (NoHome p) (NoHome p2) policy h k e = ap (λ (n : ℕ). NoHome n) (omega arith)
one_at_place wall (NoHome p) (KeptApart p2 q2) policy h k e =
    let one = stands wall (NoHome p) policy h in
    let two = stands wall (KeptApart p2 q2) policy k in
    let few = policy.few_processes in let low = policy.few_classes in absurd (omega arith)
one_at_place wall (NoHome p) (SanitisedFrom op2 l2 n2) policy h k e =
    let one = stands wall (NoHome p) policy h in
    let two = stands wall (SanitisedFrom op2 l2 n2) policy k in
    let few = policy.few_processes in let low = policy.few_classes in absurd (omega arith)
one_at_place wall (KeptApart p q) (HasClass c2) policy h k e =
    let one = stands wall (KeptApart p q) policy h in
    let two = stands wall (HasClass c2) policy k in
    let few = policy.few_processes in let low = policy.few_classes in absurd (omega arith)
one_at_place wall (KeptApart p q) (AtHome p2 d2) policy h k e =
    let one = stands wall (KeptApart p q) policy h in
    let two = stands wall (AtHome p2 d2) policy k in
    let few = policy.few_processes in let low = policy.few_classes in absurd (omega arith)
one_at_place wall (KeptApart p q) (NoHome p2) policy h k e =
    let one = stands wall (KeptApart p q) policy h in
    let two = stands wall (NoHome p2) policy k in
    let few = policy.few_processes in let low = policy.few_classes in absurd (omega arith)
one_at_place wall (KeptApart p q) (KeptApart p2 q2) policy h k e =
    let one = stands wall (KeptApart p q) policy h in
    let two = stands wall (KeptApart p2 q2) policy k in
    let few = policy.few_processes in
    let left : p ≡ p2 = omega arith in
    let right : q ≡ q2 = omega arith in cc
one_at_place wall (KeptApart p q) (SanitisedFrom op2 l2 n2) policy h k e =
    let one = stands wall (KeptApart p q) policy h in
    let two = stands wall (SanitisedFrom op2 l2 n2) policy k in
    let few = policy.few_processes in let low = policy.few_classes in absurd (omega arith)
one_at_place wall (SanitisedFrom op l n) (HasClass c2) policy h k e =
    let one = stands wall (SanitisedFrom op l n) policy h in
    let two = stands wall (HasClass c2) policy k in
    let few = policy.few_processes in let low = policy.few_classes in absurd (omega arith)
one_at_place wall (SanitisedFrom op l n) (AtHome p2 d2) policy h k e =
    let one = stands wall (SanitisedFrom op l n) policy h in
    let two = stands wall (AtHome p2 d2) policy k in
    let few = policy.few_processes in let low = policy.few_classes in absurd (omega arith)
one_at_place wall (SanitisedFrom op l n) (NoHome p2) policy h k e =
    let one = stands wall (SanitisedFrom op l n) policy h in
    let two = stands wall (NoHome p2) policy k in
    let few = policy.few_processes in let low = policy.few_classes in absurd (omega arith)
one_at_place wall (SanitisedFrom op l n) (KeptApart p2 q2) policy h k e =
    let one = stands wall (SanitisedFrom op l n) policy h in
    let two = stands wall (KeptApart p2 q2) policy k in
    let few = policy.few_processes in let low = policy.few_classes in absurd (omega arith)
one_at_place wall (SanitisedFrom op l n) (SanitisedFrom op2 l2 n2) policy h k e =
    let same = op_is op op2 (omega arith) in
    let leasts = ap (least_of wall) same in
    let distincts = ap (distinct_of wall) same in
    let least : l ≡ l2 = cc in
    let distinct : n ≡ n2 = cc in cc

---- the list of the facts, step by step

abbrev pub AreFacts : ChineseWall → List Fact → (n : ℕ) → Type 0
AreFacts wall xs n = AreListed (IsFact wall) fact_place xs n

-- it grows by the fact that stands at the place
pub add_fact : (wall : ChineseWall) (xs : List Fact) (f : Fact) (n m : ℕ) → IsPolicy wall →
    AreFacts wall xs n → IsFact wall f → fact_place f ≡ n → m ≡ n + 1 →
    AreFacts wall (xs ++ f ∷ []) m
add_fact wall xs f n m policy listed fact at next =
    subst (λ k. AreFacts wall (xs ++ f ∷ []) k) (sym next)
    (listed_more (IsFact wall) fact_place xs f n listed fact at
    (λ g other place. one_at_place wall f g policy fact other (at ∙ sym place)))

-- No fact stands behind those of the last class, of the last process, and of the last pair.

none_of_classes : (wall : ChineseWall) (f : Fact) → Stands wall f →
    length wall.class_names ≤ fact_place f → fact_place f < 1024 → ⊥
none_of_classes wall (HasClass class) h low high = omega arith
none_of_classes wall (AtHome p d) h low high = omega arith
none_of_classes wall (NoHome p) h low high = omega arith
none_of_classes wall (KeptApart p q) h low high = omega arith
none_of_classes wall (SanitisedFrom op least distinct) h low high = omega arith

pub past_classes : (wall : ChineseWall) (xs : List Fact) (n : ℕ) → IsPolicy wall →
    AreFacts wall xs n → length wall.class_names ≤ n → n ≤ 1024 → AreFacts wall xs 1024
past_classes wall xs n policy listed all few =
    listed_past (IsFact wall) fact_place xs n 1024 listed few
    (λ f fact low high. none_of_classes wall f (stands wall f policy fact) (omega arith) high)

none_of_homes : (wall : ChineseWall) (f : Fact) → IsPolicy wall → Stands wall f →
    1024 + length wall.process_names ≤ fact_place f → fact_place f < 1280 → ⊥
none_of_homes wall (HasClass class) policy h low high =
    let few = policy.few_classes in omega arith
none_of_homes wall (AtHome p d) policy h low high = omega arith
none_of_homes wall (NoHome p) policy h low high = omega arith
none_of_homes wall (KeptApart p q) policy h low high = omega arith
none_of_homes wall (SanitisedFrom op least distinct) policy h low high = omega arith

pub past_homes : (wall : ChineseWall) (xs : List Fact) (n : ℕ) → IsPolicy wall →
    AreFacts wall xs (1024 + n) → length wall.process_names ≤ n → n ≤ 256 → AreFacts wall xs 1280
past_homes wall xs n policy listed all few =
    listed_past (IsFact wall) fact_place xs (1024 + n) 1280 listed (omega arith)
    (λ f fact low high. none_of_homes wall f policy (stands wall f policy fact) (omega arith) high)

-- where p and none of the processes from a on and below b are kept apart
none_of_pairs : (wall : ChineseWall) (p a b : ℕ) (f : Fact) → IsPolicy wall → b ≤ 256 →
    ((q : ℕ) → a ≤ q → q < b → ¬ (IsFact wall (KeptApart p q))) → IsFact wall f →
    1280 + (256 * p + a) ≤ fact_place f → fact_place f < 1280 + (256 * p + b) → p < 256 → ⊥
none_of_pairs wall p a b (HasClass class) policy few none h low high within =
    let one = h in let all = policy.few_classes in omega arith
none_of_pairs wall p a b (AtHome q d) policy few none h low high within =
    let one = home_known wall q d policy h in let all = policy.few_processes in omega arith
none_of_pairs wall p a b (NoHome q) policy few none h low high within =
    let one = h.0 in let all = policy.few_processes in omega arith
none_of_pairs wall p a b (KeptApart r q) policy few none h low high within =
    let one = stands wall (KeptApart r q) policy h in
    let all = policy.few_processes in
    let same : r ≡ p = omega arith in
    none q (omega arith) (omega arith) (subst (λ s. IsFact wall (KeptApart s q)) same h)
none_of_pairs wall p a b (SanitisedFrom op least distinct) policy few none h low high within =
    omega arith

pub past_pairs : (wall : ChineseWall) (xs : List Fact) (p a b n m : ℕ) → IsPolicy wall →
    AreFacts wall xs n → n ≡ 1280 + (256 * p + a) → m ≡ 1280 + (256 * p + b) → p < 256 → a ≤ b →
    b ≤ 256 → ((q : ℕ) → a ≤ q → q < b → ¬ (IsFact wall (KeptApart p q))) → AreFacts wall xs m
past_pairs wall xs p a b n m policy listed from to within more few none =
    listed_past (IsFact wall) fact_place xs n m listed (omega arith)
    (λ f fact low high.
    none_of_pairs wall p a b f policy few none fact (omega arith) (omega arith) within)

none_of_later : (wall : ChineseWall) (f : Fact) → IsPolicy wall → Stands wall f →
    1280 + 256 * length wall.process_names ≤ fact_place f → fact_place f < 66816 → ⊥
none_of_later wall (HasClass class) policy h low high =
    let few = policy.few_classes in omega arith
none_of_later wall (AtHome p d) policy h low high = let few = policy.few_processes in omega arith
none_of_later wall (NoHome p) policy h low high = let few = policy.few_processes in omega arith
none_of_later wall (KeptApart p q) policy h low high =
    let few = policy.few_processes in omega arith
none_of_later wall (SanitisedFrom op least distinct) policy h low high = omega arith

pub past_all_pairs : (wall : ChineseWall) (xs : List Fact) (n : ℕ) → IsPolicy wall →
    AreFacts wall xs (1280 + 256 * n) → length wall.process_names ≤ n → n ≤ 256 →
    AreFacts wall xs 66816
past_all_pairs wall xs n policy listed all few =
    listed_past (IsFact wall) fact_place xs (1280 + 256 * n) 66816 listed (omega arith)
    (λ f fact low high. none_of_later wall f policy (stands wall f policy fact) (omega arith) high)

-- no fact is of this operation
none_of_op : (wall : ChineseWall) (op : Op) (f : Fact) → IsPolicy wall →
    ((least distinct : ℕ) → ¬ (IsFact wall (SanitisedFrom op least distinct))) → IsFact wall f →
    66816 + op_number op ≤ fact_place f → fact_place f < 66816 + op_number op + 1 → ⊥
none_of_op wall op (HasClass class) policy none h low high =
    let one = h in let all = policy.few_classes in omega arith
none_of_op wall op (AtHome q d) policy none h low high =
    let one = home_known wall q d policy h in let all = policy.few_processes in omega arith
none_of_op wall op (NoHome q) policy none h low high =
    let one = h.0 in let all = policy.few_processes in omega arith
none_of_op wall op (KeptApart p q) policy none h low high =
    let one = stands wall (KeptApart p q) policy h in
    let all = policy.few_processes in omega arith
none_of_op wall op (SanitisedFrom other least distinct) policy none h low high =
    let same = op_is other op (omega arith) in
    none least distinct (subst (λ o. IsFact wall (SanitisedFrom o least distinct)) same h)

pub past_op : (wall : ChineseWall) (xs : List Fact) (op : Op) → IsPolicy wall →
    AreFacts wall xs (66816 + op_number op) →
    ((least distinct : ℕ) → ¬ (IsFact wall (SanitisedFrom op least distinct))) →
    AreFacts wall xs (66816 + op_number op + 1)
past_op wall xs op policy listed none =
    listed_past (IsFact wall) fact_place xs (66816 + op_number op) (66816 + op_number op + 1) listed
    (omega arith)
    (λ f fact low high. none_of_op wall op f policy none fact low high)

-- the list of all
pub all_facts : (wall : ChineseWall) (xs : List Fact) → IsPolicy wall → AreFacts wall xs 66828 →
    (f : Fact) → (Contains xs f → IsFact wall f) × (IsFact wall f → Contains xs f)
all_facts wall xs policy listed f = (
  λ has. All-contains (IsFact wall) xs f listed.sound has,
  λ fact. listed.whole f fact (last wall f policy (stands wall f policy fact)),
)
  where
    last : (wall : ChineseWall) (f : Fact) → IsPolicy wall → Stands wall f → fact_place f < 66828
    last wall (HasClass class) policy h = let few = policy.few_classes in omega arith
    last wall (AtHome p d) policy h = let few = policy.few_processes in omega arith
    last wall (NoHome p) policy h = let few = policy.few_processes in omega arith
    last wall (KeptApart p q) policy h = let few = policy.few_processes in omega arith
    last wall (SanitisedFrom op least distinct) policy h = omega arith

-- what a fact names is of the policy
pub known_fact : (wall : ChineseWall) (f : Fact) → IsPolicy wall → IsFact wall f →
    IsKnownFact wall f
known_fact wall (HasClass class) policy h = h
known_fact wall (AtHome p d) policy h = (home_known wall p d policy h, policy.known_homes p d h)
known_fact wall (NoHome p) policy h = h.0
known_fact wall (KeptApart p q) policy h = (
  home_known wall p h.1.left policy h.1.left_home,
  home_known wall q h.1.right policy h.1.right_home,
)
known_fact wall (SanitisedFrom op least distinct) policy h = tt
