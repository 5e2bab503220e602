-- Requests, counted by communicators.
use Rattle.std.proofs.Common.{◌≡◌, ◌≢◌, ℕ, ◌+◌, ◌<◌, ◌≤◌, List, [], ◌∷◌, ◌++◌, length, take}
use Rattle.std.proofs.Common.{min, set, get_or, refl, sym, ap, subst, ◌∙◌, arith, eq-eqb, ne_eqb}
use Rattle.std.proofs.Common.{length-append}
use native.Mathlib.Decide.{ℕ_discrete}
use Rattle.std.specs.List.{count_by}
use Rattle.std.proofs.lemmas.List.{take-append-le, get_or-set_same, get_or-set_other}
use Rattle.std.proofs.lemmas.List.Sums.{sum_by-append}
use Rattle.std.proofs.Math.Seq.{take-append_seam, get_or-append_seam}
use Rattle.std.proofs.Math.ListN.{get_or-append}
use Rattle.std.specs.Prelude.{nat_eq, cond}
use Rattle.rank_stage.specs.declared.board.Instance.{Instance}
use Rattle.mpi_comm.specs.declared.table.TheConstants.{COMMUNICATOR_LIMIT}
use Rattle.run_model.specs.declared.call.Act.{Act}
use Rattle.run_model.specs.declared.call.Act.TheVariants.{Post, Take, Info}
use Rattle.rank_run.specs.Asked.{AreCounted, CountsAll, on_comm, no_instance, PostsBelow, HasPlace}

-- what is posted on below a number is so below a larger one
pub below_more : (old new : ℕ) → old ≤ new → (act : Act) → PostsBelow old act → PostsBelow new act
below_more old new le (Post posting) h = omega arith
below_more old new le (Take request) h = tt
below_more old new le (Info comm) h = tt

pub has_place : (number places : ℕ) → min number COMMUNICATOR_LIMIT ≤ places
    → (act : Act) → PostsBelow number act → HasPlace places act
has_place number places le (Post posting) h = λ low. omega arith
has_place number places le (Take request) h = tt
has_place number places le (Info comm) h = tt

-- one request more
more_by : (comm : ℕ) (all : List Instance) (it : Instance)
    → on_comm comm (all ++ it ∷ []) ≡ on_comm comm all + on_comm comm (it ∷ [])
more_by comm all it =
    sum_by-append (λ (x : Instance). cond (nat_eq x.comm comm) 1 0) all (it ∷ [])

one_own : (it : Instance) → on_comm it.comm (it ∷ []) ≡ 1
one_own it = ap (λ b. count_by (λ (_ : Instance). b) (it ∷ [])) (eq-eqb it.comm it.comm refl)

one_other : (comm : ℕ) (it : Instance) → it.comm ≢ comm → on_comm comm (it ∷ []) ≡ 0
one_other comm it ne = ap (λ b. count_by (λ (_ : Instance). b) (it ∷ [])) (ne_eqb it.comm comm ne)

pub counted_more : (all : List Instance) (it : Instance) → it.number ≡ on_comm it.comm all
    → AreCounted all → AreCounted (all ++ it ∷ [])
counted_more all it is h request lt = elim (ℕ_discrete request (length all)) [
  | yes same ↦
      let last : get_or (all ++ it ∷ []) request no_instance ≡ it =
      ap (λ n. get_or (all ++ it ∷ []) n no_instance) same
      ∙ get_or-append_seam all it [] no_instance in
      let before : take request (all ++ it ∷ []) ≡ all =
      ap (λ n. take n (all ++ it ∷ [])) same ∙ take-append_seam all (it ∷ []) in
      ap (λ (x : Instance). x.number) last ∙ is
      ∙ ap (λ (x : Instance). on_comm x.comm all) (sym last)
      ∙ ap (on_comm (get_or (all ++ it ∷ []) request no_instance).comm) (sym before)
  | no ne ↦
      let low : request < length all = let l = length-append all (it ∷ []) in omega arith in
      let entry = get_or-append all (it ∷ []) no_instance request low in
      let before = take-append-le request all (it ∷ []) (omega arith) in
      ap (λ (x : Instance). x.number) entry ∙ h request low
      ∙ ap (λ (x : Instance). on_comm x.comm (take request all)) (sym entry)
      ∙ ap (on_comm (get_or (all ++ it ∷ []) request no_instance).comm) (sym before)
]

pub counts_more : (entered : List ℕ) (all : List Instance) (it : Instance) (more : ℕ)
    → more ≡ it.number + 1 → it.number ≡ on_comm it.comm all → it.comm < length entered
    → CountsAll entered all →
    (lens : (comm : ℕ) → comm < length (set entered it.comm more) → comm < length entered)
    → CountsAll (set entered it.comm more) (all ++ it ∷ [])
counts_more entered all it more is number low h lens comm lt = elim (ℕ_discrete comm it.comm) [
  | yes same ↦
      let own = get_or-set_same entered it.comm more 0 low in
      let by = more_by it.comm all it in
      let one = one_own it in
      let here : get_or (set entered it.comm more) it.comm 0 ≡ on_comm it.comm (all ++ it ∷ []) =
      own ∙ is ∙ ap (λ n. n + 1) number ∙ ap (λ n. on_comm it.comm all + n) (sym one) ∙ sym by in
      subst (λ c. get_or (set entered it.comm more) c 0 ≡ on_comm c (all ++ it ∷ [])) (sym same)
      here
  | no ne ↦
      let by = more_by comm all it in
      let none = one_other comm it (λ x. ne (sym x)) in
      let old = get_or-set_other entered it.comm comm more 0 ne in
      let was = h comm (lens comm lt) in
      omega arith
]
