-- The last run of a chain, read again, and a report on it without a page.
use Rattle.std.proofs.Common.{◌≡◌, ℕ, List, Option, Some, None, Result, Ok, Err, inl, inr, subst}
use Rattle.std.proofs.Common.{sym, IfSome, IfNone}
use Rattle.std.specs.Prelude.{IfOk, IfErr}
use Rattle.wall_policy.specs.Policy.{ChineseWall}
use Rattle.wall_policy.specs.declared.growth.GrowthFault.{GrowthFault}
use Rattle.run_model.specs.declared.entry.Entry.{Entry}
use Rattle.run_model.specs.Books.{IsSound}
use Rattle.hall_script.specs.Devices.{Used, used}
use Rattle.book_stream.specs.declared.fault.AuditFault.TheVariants as audits
use Rattle.chain_file.specs.declared.run.Run.{Run}
use Rattle.chain_file.specs.Text.{Chain}
use Rattle.chain_runs.specs.declared.fault.RunFault.{RunFault}
use Rattle.chain_runs.specs.declared.fault.RunFault.TheVariants as runs
use Rattle.chain_runs.specs.declared.runs.Broken.{Broken}
use Rattle.chain_runs.specs.declared.runs.Past.{Past}
use Rattle.chain_runs.specs.Runs.{IsBegunUnder, SaysBook}
use Rattle.chain_runs.specs.Chains.{Reading, reading}
use Rattle.program_commands.specs.declared.ending.Ending.{Ending}
use Rattle.program_commands.specs.declared.report.Reading.{Reading as LastRead}
use Rattle.program_commands.specs.ChainLines.{HasName, CanBeTold}
use Rattle.program_commands.specs.ChainReports.{IsNoBookOf, IsNoRun, HasTooLong, IsReadAgain}
use Rattle.program_commands.specs.ChainReports.{IsNotReadAgain, IsLongRun, IsNoLast, IsNotTold}
use Rattle.program_commands.specs.ChainReports.{IsNotToldNext, ReportsBehind, ChainReported}
use Rattle.program_commands.proofs.ChainLemmas.{begun_named, has_name}

-- no book says of its policy that it has not grown
not_of_a_book : {B : Type 0} (wall : ChineseWall) (book : Used B) (digest : List ℕ)
    (f : GrowthFault) → IsNoBookOf wall book digest (runs.NotGrown f) → ⊥
not_of_a_book wall book digest f (inl h) =
    let bad : runs.NotGrown f ≡ runs.BadBook audits.Read = h.0 in cc
not_of_a_book wall book digest f (inr (inl h)) = h.2
not_of_a_book wall book digest f (inr (inr h)) =
    let bad : runs.NotGrown f ≡ runs.NoMemory = h.0 in cc

-- where there is no policy of it, or its book does not stand, what has not grown has a name
last_named : {P B : Type 0} (after : Option ChineseWall) (run : Run) (policy : Used P)
    (book : Used B) (fault : RunFault) → IsNoRun after run policy book fault → HasName after fault
last_named after run policy book fault (inl h) = begun_named after run.begun policy fault h.0
last_named after run policy book runs.UnreadPolicy (inr h) = tt
last_named after run policy book runs.OtherPolicy (inr h) = tt
last_named after run policy book (runs.BadPolicy f) (inr h) = tt
last_named after run policy book (runs.NotGrown f) (inr h) = absurd
    (not_of_a_book h.0 book run.book_digest f h.2)
last_named after run policy book (runs.BadBook f) (inr h) = tt
last_named after run policy book runs.OtherBook (inr h) = tt
last_named after run policy book runs.TooMany (inr h) = tt
last_named after run policy book runs.NoMemory (inr h) = tt

module _ {D : Type 0} (fails : D → ℕ) (left : D → Option (List ℕ))
    (is_at : D → List ℕ → Type 0) where
  not_again_named : (past : Past) (run : Run) (fault : RunFault) →
      IsNotReadAgain fails left is_at past run fault → HasName past.policy fault
  not_again_named past run fault why = last_named past.policy run (reading fails left is_at why.0)
      (reading fails left is_at why.1) fault why.2

  pub bad_last_named : (past : Past) (run : Run) (fault : RunFault) →
      IsNoLast fails left is_at past run fault → HasName past.policy fault
  bad_last_named past run fault (inl why) = not_again_named past run fault why
  bad_last_named past run fault (inr long) =
      subst (λ f. HasName past.policy f) (sym long.0) tt

  not_told_named : (past : Past) (run : Run) (fault : RunFault) →
      IsNotToldNext fails left is_at past run fault → HasName past.policy fault
  not_told_named past run fault (inl why) = has_name fails left is_at past run fault why
  not_told_named past run fault (inr why) = not_again_named past run fault why

  pub untold_named : (all : List Run) (broken : Broken) → IsNotTold fails left is_at all broken →
      CanBeTold broken
  untold_named all broken b = subst (λ o. HasName o broken.fault) (sym b.after)
      (not_told_named b.past b.one broken.fault b.fault)

module _ {D : Type 0} (fails : D → ℕ) (left : D → Option (List ℕ))
    (is_at : D → List ℕ → Type 0) (past : Past) (after : Option ChineseWall)
    (same : after ≡ past.policy) (run : Run) (p q b d : D) (by_policy by_book : List ℕ)
    (p_is : is_at p by_policy) (same_policy : by_policy ≡ run.begun.policy)
    (b_is : is_at b by_book) (same_book : by_book ≡ run.begun.book) where
  by_its_policy : Reading fails left is_at run.begun.policy
  by_its_policy = record { first = p; last = q; at = subst (is_at p) same_policy p_is }

  by_its_book : Reading fails left is_at run.begun.book
  by_its_book = record { first = b; last = d; at = subst (is_at b) same_book b_is }

  pub run_read_again : (read : Result (Option LastRead) RunFault) →
      IfOk read (λ o. IfSome o
      (λ r. IsBegunUnder after run.begun (used fails left p q) r.wall)) →
      IfOk read (λ o. IfSome o
      (λ r. SaysBook r.wall (used fails left b d) run.book_digest r.entries.list)) →
      IfOk read (λ o. IfSome o (λ r. IsSound r.wall r.entries.list)) →
      IfOk read (λ o. IfSome o
      (λ r. IsReadAgain fails left is_at past run r.wall r.entries.list))
  unfolding by_its_policy by_its_book
  run_read_again (Ok (Some r)) under says sound = record {
    policy = by_its_policy;
    under = subst (λ o. IsBegunUnder o run.begun (used fails left p q) r.wall) same under;
    book = by_its_book;
    says = says;
    sound = sound;
  }
  run_read_again (Ok None) under says sound = tt
  run_read_again (Err fault) under says sound = tt

  pub run_long : (read : Result (Option LastRead) RunFault) →
      IfOk read (λ o. IfNone o
      (HasTooLong after run (used fails left p q) (used fails left b d))) →
      IfOk read (λ o. IfNone o (IsLongRun fails left is_at past run))
  unfolding by_its_policy by_its_book
  run_long (Ok (Some r)) long = tt
  run_long (Ok None) long = (
    by_its_policy,
    by_its_book,
    subst (λ o. HasTooLong o run (used fails left p q) (used fails left b d)) same long,
  )
  run_long (Err fault) long = tt

  pub run_not_read_again : (read : Result (Option LastRead) RunFault) →
      IfErr read (IsNoRun after run (used fails left p q) (used fails left b d)) →
      IfErr read (IsNotReadAgain fails left is_at past run)
  unfolding by_its_policy by_its_book
  run_not_read_again (Ok r) why = tt
  run_not_read_again (Err fault) why = (
    by_its_policy,
    by_its_book,
    subst (λ o. IsNoRun o run (used fails left p q) (used fails left b d) fault) same why,
  )

-- a report without a page, whichever kind of writer there is none of
module _ {D O E : Type 0} (fails : D → ℕ) (left : D → Option (List ℕ))
    (is_at : D → List ℕ → Type 0) (file : Chain) (out : Used O) (err : Used E) (status : ℕ) where
  unpaged_behind : {A W : Type 0} (given : List ℕ) (wall : ChineseWall) (entries : List Entry)
      (ending : Ending) → ReportsBehind {W = A} given wall entries out None ending →
      ReportsBehind {W = W} given wall entries out None ending
  unpaged_behind given wall entries ending (inl r) = inl (record {
    sound = r.sound;
    keeps = r.keeps;
    text = r.text;
    report = r.report;
    written = r.written;
  })
  unpaged_behind given wall entries ending (inr other) = inr other

  pub unpaged_report : {A W : Type 0} →
      ChainReported fails left is_at {W = A} file out None err status →
      ChainReported fails left is_at {W = W} file out None err status
  unpaged_report (inl none) = inl none
  unpaged_report {A = A} {W = W} (inr a) = inr (
    a.0,
    a.1,
    a.2,
    a.3,
    (a.4.0, unpaged_behind {A = A} {W = W} a.0 a.1 a.2 a.4.0 a.4.1, a.4.2, a.4.3),
  )
