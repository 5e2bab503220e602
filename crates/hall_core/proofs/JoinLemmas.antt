-- The new communicator that a process is in.
use Rattle.std.proofs.Common.{◌≡◌, ℕ, suc, ◌+◌, ◌-◌, ◌<◌, ◌≤◌, List, length, ap, ◌∙◌, arith, Some}
use Rattle.std.proofs.Common.{None, slice_get, take, drop}
use Rattle.mpi_group.specs.Groups.{rank_in}
use Rattle.run_model.specs.Comms.{Comm}
use Rattle.run_model.specs.declared.reply.Reply.TheVariants.{NewComm, NullComm}
use Rattle.run_model.specs.Replies.{join, joined}
use Rattle.hall_core.specs.Moves.{row_at}
use Rattle.hall_core.proofs.LookLemmas.{row_next}

row_first : (p : ℕ) (table : List Comm) (c end : ℕ) (comm : Comm) → c < end →
    slice_get table c ≡ Some comm →
    joined p c (row_at table c (end - c))
    ≡ join c comm (rank_in comm.members p)
    (joined p (c + 1) (row_at table (c + 1) (end - (c + 1))))
row_first p table c end comm low at =
    let more : end - c ≡ suc (end - (c + 1)) = omega (arith, low) in
    let next : suc c ≡ c + 1 = omega arith in
    ap (λ n. joined p c (take n (drop c table))) more
    ∙ (ap (λ rest. joined p c rest) (row_next table c (end - (c + 1)) comm at)
    ∙ ap (λ n. join c comm (rank_in comm.members p)
    (joined p (c + 1) (take (end - (c + 1)) (drop n table)))) next)

pub joined_next : (p : ℕ) (table : List Comm) (c end : ℕ) (comm : Comm) → c < end →
    slice_get table c ≡ Some comm → rank_in comm.members p ≡ None →
    joined p c (row_at table c (end - c)) ≡ joined p (c + 1) (row_at table (c + 1) (end - (c + 1)))
joined_next p table c end comm low at none = row_first p table c end comm low at
    ∙ ap (λ o. join c comm o (joined p (c + 1) (row_at table (c + 1) (end - (c + 1))))) none

pub joined_here : (p : ℕ) (table : List Comm) (c end rank : ℕ) (comm : Comm) → c < end →
    slice_get table c ≡ Some comm → rank_in comm.members p ≡ Some rank →
    joined p c (row_at table c (end - c)) ≡ NewComm c rank (length comm.members)
joined_here p table c end rank comm low at some = row_first p table c end comm low at
    ∙ ap (λ o. join c comm o (joined p (c + 1) (row_at table (c + 1) (end - (c + 1))))) some

pub joined_end : (p : ℕ) (table : List Comm) (c end : ℕ) → end ≤ c →
    joined p c (row_at table c (end - c)) ≡ NullComm
joined_end p table c end past =
    let none : end - c ≡ 0 = omega (arith, past) in ap (λ n. joined p c (row_at table c n)) none

pub joined_first : (p : ℕ) (table : List Comm) (first number end : ℕ) → end ≡ first + number →
    joined p first (row_at table first number) ≡ joined p first (row_at table first (end - first))
joined_first p table first number end is = let same : number ≡ end - first = omega (arith, is) in
    ap (λ n. joined p first (row_at table first n)) same
