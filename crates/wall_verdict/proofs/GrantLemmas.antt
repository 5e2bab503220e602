-- A grant, receiver by receiver.
use Rattle.std.proofs.Common.{◌≡◌, ℕ, ◌+◌, ◌<◌, ◌≤◌, Bool, true, false, length, Option, Some}
use Rattle.std.proofs.Common.{None, refl, sym, ap, ◌∙◌, subst, arith, ◌||◌, ◌&&◌, slice_get, inl}
use Rattle.std.proofs.Common.{inr, ◌⊎◌, ⊎_elim, eqb-true, eq-eqb, ne_eqb, lt-ltb, ltb-true}
use Rattle.std.specs.Prelude.{nat_lt, nat_eq, ◌==◌}
use Rattle.std.specs.Ordering.{nat_cmp}
use Rattle.std.specs.FinSet.{FinSet, contains}
use Rattle.std.proofs.Math.Bool.{or-false}
use Rattle.std.proofs.lemmas.Bool.{cases_Bool, false≢true, or_cases, or_left, or_right, and_parts}
use Rattle.wall_policy.specs.Policy.{ChineseWall}
use Rattle.wall_rules.specs.Histories.{History, entered}
use Rattle.wall_rules.specs.Rules.{HoldsNoRivals, joined}
use Rattle.wall_rules.proofs.WallRulesLemmas.{no_rivals-part}
use Rattle.mpi_group.specs.Groups.{IsGroup, rank_in}
use Rattle.mpi_group.proofs.MpiGroupLemmas.{rank_is}
use Rattle.mpi_group.proofs.MpiGroupLemmas.{ranked}
use Rattle.coll_routes.specs.declared.roll.Roll.{Roll}
use Rattle.wall_verdict.specs.declared.verdict.Verdict.TheVariants.{Granted}
use Rattle.wall_verdict.specs.Charges.{charged}
use Rattle.wall_verdict.specs.Verdicts.{verdict}
use Rattle.wall_verdict.specs.Grants.{charged_at, charged_to, is_granted, with_charges, settled}
use Rattle.wall_verdict.specs.Meanings.{MembersStayApart}

---- Ranks of members.

---- The receivers below rank n have got what is charged to them.

abbrev pub charged_first : ChineseWall → Roll → ℕ → Option ℕ → ℕ → Bool
charged_first wall roll n (Some j) d = nat_lt j n && charged wall roll j d
charged_first wall roll n None d = false

abbrev pub under : ChineseWall → History → Roll → ℕ → History
under wall has roll n p d = has p d || charged_first wall roll n (rank_in roll.members p) d

pub under_none : (wall : ChineseWall) (has : History) (roll : Roll) → has ≡ under wall has roll 0
under_none wall has roll = λ i p d.
    (sym (or-false (has p d)) ∙ ap (λ b. has p d || b) (nobody (rank_in roll.members p) d)) i
  where
    none_below : (j : ℕ) → nat_lt j 0 ≡ false
    none_below j = ⊎_elim (λ t. let low : j < 0 = ltb-true j 0 t in absurd (omega arith)) (λ f. f)
        (cases_Bool (nat_lt j 0))

    nobody : (o : Option ℕ) (d : ℕ) → false ≡ charged_first wall roll 0 o d
    nobody None d = refl
    nobody (Some j) d = sym (ap (λ b. b && charged wall roll j d) (none_below j))

pub under_all : (wall : ChineseWall) (has : History) (roll : Roll) (n : ℕ) →
    n ≡ length roll.members → under wall has roll n ≡ with_charges wall has roll
under_all wall has roll n long =
    λ i p d. (ap (λ b. has p d || b) (everyone p d (rank_in roll.members p) refl)) i
  where
    everyone : (p d : ℕ) (o : Option ℕ) → rank_in roll.members p ≡ o →
        charged_first wall roll n o d ≡ charged_at wall roll o d
    everyone p d None e = refl
    everyone p d (Some j) e = ap (λ b. b && charged wall roll j d)
        (lt-ltb j n (subst (λ k. j < k) (sym long) (rank_is roll.members p j e).1))

next_low : (n j : ℕ) → nat_lt j (n + 1) ≡ (nat_lt j n || (j == n))
next_low n j = ⊎_elim
    (λ t. let low : j < n = ltb-true j n t in
    lt-ltb j (n + 1) (omega arith) ∙ sym (ap (λ b. b || (j == n)) t))
    (λ f. ⊎_elim
    (λ t. let is = eqb-true j n t in
    lt-ltb j (n + 1) (omega arith) ∙ sym (ap (λ b. b || (j == n)) f ∙ t))
    (λ g. no_lt (λ low. apart f g (omega arith)) ∙ sym (ap (λ b. b || (j == n)) f ∙ g))
    (cases_Bool (j == n)))
    (cases_Bool (nat_lt j n))
  where
    no_lt : (j < n + 1 → ⊥) → nat_lt j (n + 1) ≡ false
    no_lt h =
        ⊎_elim (λ t. absurd (h (ltb-true j (n + 1) t))) (λ f. f) (cases_Bool (nat_lt j (n + 1)))

    apart : nat_lt j n ≡ false → (j == n) ≡ false → j ≤ n → ⊥
    apart f g le =
        let not_low : j < n → ⊥ = (λ low. false≢true (sym f ∙ lt-ltb j n low)) in
        let not_same : j ≡ n → ⊥ = (λ same. false≢true (sym g ∙ eq-eqb j n same)) in
        omega arith

module _ (wall : ChineseWall) (has : History) (roll : Roll) (group : IsGroup roll.members) (n m : ℕ)
    (at : slice_get roll.members n ≡ Some m) (s : FinSet nat_cmp)
    (brought : (d : ℕ) → contains s d ≡ charged wall roll n d) where
  -- p is the member of rank n exactly where its rank is n
  same_rank : (p j : ℕ) → rank_in roll.members p ≡ Some j → nat_eq p m ≡ (j == n)
  same_rank p j e = ⊎_elim
      (λ t.
      let is = eqb-true p m t in
      let both : Some j ≡ Some n = sym e ∙
      (ap (λ q. rank_in roll.members q) is ∙ ranked roll.members n m group at) in
      let same : j ≡ n = cc in
      t ∙ sym (eq-eqb j n same))
      (λ f. f ∙ sym (ne_eqb j n (λ is.
      let mine : slice_get roll.members n ≡ Some p = subst (λ k. slice_get roll.members k ≡ Some p)
      is (rank_is roll.members p j e).0 in
      let both : Some p ≡ Some m = sym mine ∙ at in
      let same : p ≡ m = cc in
      false≢true (sym f ∙ eq-eqb p m same))))
      (cases_Bool (nat_eq p m))

  distribute : (a b c : Bool) → ((a || b) && c) ≡ ((a && c) || (b && c))
  distribute true b true = refl
  distribute true true false = refl
  distribute true false false = refl
  distribute false b c = refl

  step_at : (p d : ℕ) (o : Option ℕ) → rank_in roll.members p ≡ o → (charged_first wall roll n o d
      || (nat_eq p m && contains s d)) ≡ charged_first wall roll (n + 1) o d
  step_at p d None e = ap (λ b. b && contains s d) (ne_eqb p m (λ same.
      let both : None ≡ Some n = sym e ∙
      (ap (λ q. rank_in roll.members q) same ∙ ranked roll.members n m group at) in
      absurd (cc)))
  step_at p d (Some j) e =
      ap (λ b. (nat_lt j n && charged wall roll j d) || (b && contains s d)) (same_rank p j e)
      ∙ (ap (λ b. (nat_lt j n && charged wall roll j d) || b) (here (cases_Bool (j == n)))
      ∙ (sym (distribute (nat_lt j n) (j == n) (charged wall roll j d))
      ∙ ap (λ b. b && charged wall roll j d) (sym (next_low n j))))
    where
      here : ((j == n) ≡ true) ⊎ ((j == n) ≡ false) →
          ((j == n) && contains s d) ≡ ((j == n) && charged wall roll j d)
      here (inl t) = ap (λ b. (j == n) && b)
          (brought d ∙ ap (λ k. charged wall roll k d) (sym (eqb-true j n t)))
      here (inr f) = ap (λ b. b && contains s d) f ∙ sym (ap (λ b. b && charged wall roll j d) f)

  or_assoc : (a b c : Bool) → ((a || b) || c) ≡ (a || (b || c))
  or_assoc true b c = refl
  or_assoc false b c = refl

  pub under_more : (now : History) → now ≡ under wall has roll n →
      entered now m s ≡ under wall has roll (n + 1)
  under_more now is = ap (λ (h : History). entered h m s) is
      ∙ (λ i p d. (or_assoc (has p d) (charged_first wall roll n (rank_in roll.members p) d)
      (nat_eq p m && contains s d)
      ∙ ap (λ b. has p d || b) (step_at p d (rank_in roll.members p) refl)) i)

  -- what is entered for one receiver holds no rivals
  pub may_enter : (now : History) → now ≡ under wall has roll n → MembersStayApart wall has roll →
      HoldsNoRivals wall.classes (joined (now m) s)
  may_enter now is apart = no_rivals-part wall.classes (λ d. has m d || charged wall roll n d)
      (joined (now m) s) (apart n m at) (λ d h. ⊎_elim
      (λ old. within d (subst (λ (g : History). g m d ≡ true) is old))
      (λ new. or_right (has m d) _ (sym (brought d) ∙ new))
      (or_cases (now m d) (contains s d) h))
    where
      by_rank : (d : ℕ) (o : Option ℕ) → o ≡ Some n → charged_first wall roll n o d ≡ true →
          charged wall roll n d ≡ true
      by_rank d None e h = absurd (false≢true h)
      by_rank d (Some j) e h = let same : j ≡ n = cc in
          sym (ap (λ k. charged wall roll k d) same)
          ∙ (and_parts (nat_lt j n) (charged wall roll j d) h).1

      within : (d : ℕ) → under wall has roll n m d ≡ true →
          (has m d || charged wall roll n d) ≡ true
      within d h = ⊎_elim (λ old. or_left (has m d) _ old) (λ new.
          or_right (has m d) _
          (by_rank d (rank_in roll.members m) (ranked roll.members n m group at) new))
          (or_cases (has m d) _ h)

-- a receiver that has had access to all that is charged to it
module _ (wall : ChineseWall) (has : History) (roll : Roll) (group : IsGroup roll.members) (n m : ℕ)
    (at : slice_get roll.members n ≡ Some m) where
  kept_at : (p d : ℕ) (o : Option ℕ) → rank_in roll.members p ≡ o →
      (charged wall roll n d ≡ true → under wall has roll n m d ≡ true) →
      (has p d || charged_first wall roll n o d) ≡ (has p d || charged_first wall roll (n + 1) o d)
  kept_at p d None e all = refl
  kept_at p d (Some j) e all = ⊎_elim
      (λ t.
      let is : j ≡ n = eqb-true j n t in
      let mine = rank_is roll.members p j e in
      let both : Some p ≡ Some m = sym mine.0 ∙ (ap (slice_get roll.members) is ∙ at) in
      let same : p ≡ m = cc in
      ⊎_elim
      (λ c.
      let had : (has p d || charged_first wall roll n (Some j) d) ≡ true =
      ap (λ o. has p d || charged_first wall roll n o d) (sym e)
      ∙ (ap (λ q. under wall has roll n q d) same ∙ all c) in
      had ∙ sym (or_right (has p d) (charged_first wall roll (n + 1) (Some j) d)
      (ap (λ b. b && charged wall roll j d) (lt-ltb j (n + 1) (omega arith))
      ∙ (ap (λ k. charged wall roll k d) is ∙ c))))
      (λ f. ap (λ b. has p d || b) (nothing (nat_lt j n) j is f
      ∙ sym (nothing (nat_lt j (n + 1)) j is f)))
      (cases_Bool (charged wall roll n d)))
      (λ f. ap (λ b. has p d || (b && charged wall roll j d)) (sym (next_low n j
      ∙ (ap (λ b. nat_lt j n || b) f ∙ or-false (nat_lt j n)))))
      (cases_Bool (j == n))
    where
      nothing : (b : Bool) (k : ℕ) → k ≡ n → charged wall roll n d ≡ false →
          (b && charged wall roll k d) ≡ false
      nothing true k is f = ap (λ i. charged wall roll i d) is ∙ f
      nothing false k is f = refl

  pub under_kept : (now : History) → now ≡ under wall has roll n →
      ((d : ℕ) → charged wall roll n d ≡ true → now m d ≡ true) →
      now ≡ under wall has roll (n + 1)
  under_kept now is all = is ∙ (λ i p d. kept_at p d (rank_in roll.members p) refl
      (λ c. ap (λ (h : History). h m d) (sym is) ∙ all d c) i)

---- The histories after a verdict.

pub settled_granted : (wall : ChineseWall) (has : History) (roll : Roll) →
    verdict wall has roll ≡ Granted → with_charges wall has roll ≡ settled wall has roll
settled_granted wall has roll e =
    sym (λ i p d. has p d || (is_granted (e i) && charged_to wall roll p d))

pub settled_denied : (wall : ChineseWall) (has : History) (roll : Roll) →
    is_granted (verdict wall has roll) ≡ false → has ≡ settled wall has roll
settled_denied wall has roll f =
    sym (λ i p d. (ap (λ b. has p d || (b && charged_to wall roll p d)) f ∙ or-false (has p d)) i)
