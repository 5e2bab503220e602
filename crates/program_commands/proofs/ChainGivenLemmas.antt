-- What the runs of a chain gave: one more of them, read again and told; and their section.
use Rattle.std.proofs.Common.{◌≡◌, ℕ, ◌+◌, ◌<◌, List, ◌∷◌, ◌++◌, length, take, reverse, get_or}
use Rattle.std.proofs.Common.{Option, Result, Ok, Err, inl, inr, refl, sym, ap, subst, ◌∙◌}
use Rattle.std.proofs.Common.{arith, false, ◌==◌, [], codes, append_assoc}
use Rattle.std.specs.Prelude.{IfOk, IfErr, OnOk, if◌then◌else◌, is_ok}
use Rattle.std.proofs.lemmas.List.{length-take-le, length-reverse}
use Rattle.wall_policy.specs.Policy.{ChineseWall}
use Rattle.run_model.specs.declared.entry.Entry.{Entry}
use Rattle.run_model.specs.Books.{posts_in}
use Rattle.run_model.specs.Chains.{Link, IsChain, IsPolicyAfter}
use Rattle.chain_file.specs.declared.run.Run.{Run}
use Rattle.chain_runs.specs.declared.fault.RunFault.{RunFault}
use Rattle.chain_runs.specs.declared.fault.RunFault.TheVariants as runs
use Rattle.chain_runs.specs.declared.runs.Past.{Past}
use Rattle.chain_runs.specs.Runs.{IsChainAfter}
use Rattle.chain_runs.specs.Chains.{StandsBehind, HasRead}
use Rattle.chain_runs.proofs.ChainRunsLemmas.{newest_first}
use Rattle.program_commands.specs.ChainGiven.{long_line, given_section, IsGivenBy, AreGiven}
use Rattle.program_commands.specs.ChainReports.{IsReadAgain, IsLongRun, HasTold}
use Rattle.program_commands.specs.ChainReports.{GoesOnFrom, LacksRoom, IsToldNext, IsNotToldNext}

module _ {D : Type 0} (fails : D → ℕ) (left : D → Option (List ℕ))
    (is_at : D → List ℕ → Type 0) (past : Past) (run : Run) where
  -- ---- its book was read whole

  module _ (wall : ChineseWall) (entries : List Entry)
      (again : IsReadAgain fails left is_at past run wall entries) where
    link : Link
    link = record { wall = wall; book = entries }

    again_behind : (now : ChineseWall) → IsPolicyAfter wall (posts_in entries) now →
        StandsBehind fails left is_at past.policy run now link
    unfolding link
    again_behind now behind = record {
      policy = again.policy;
      book = again.book;
      stands = record {
        file = again.under.file;
        says = again.under.says;
        under = again.under.under;
        read = again.says;
        sound = again.sound;
        behind = behind;
      };
    }

    told_whole : (number : ℕ) (was is : List ℕ) (new : Past) →
        ((links : List Link) → IsChainAfter past.policy links → IsChain links wall) →
        HasTold wall entries number was is → GoesOnFrom wall entries past.entries new →
        IsToldNext fails left is_at past run number was is new
    unfolding link
    told_whole number was is new chain told goes_on = (
      (
        goes_on.0,
        link,
        again_behind goes_on.0 goes_on.1,
        goes_on.2,
        goes_on.3,
        λ links after. subst (λ o. IsChainAfter o (link ∷ links)) (sym goes_on.2)
            (chain links after, again.sound, goes_on.1),
      ),
      told.0,
      inl told.1,
      told.2,
    )

    pub told_if_whole : (number : ℕ) (was is : List ℕ) (result : Result Past RunFault) →
        ((links : List Link) → IsChainAfter past.policy links → IsChain links wall) →
        HasTold wall entries number was is →
        IfOk result (GoesOnFrom wall entries past.entries) →
        IfOk result (IsToldNext fails left is_at past run number was is)
    told_if_whole number was is (Ok new) chain told goes_on =
        told_whole number was is new chain told goes_on
    told_if_whole number was is (Err fault) chain told goes_on = tt

    pub out_of_memory : IsNotToldNext fails left is_at past run runs.NoMemory
    out_of_memory = inr (
      again.policy,
      again.book,
      inr (wall, again.under, inr (inr (refl, again.says.1.0))),
    )

    lacks_room : (fault : RunFault) → LacksRoom wall entries past.entries fault →
        IsNotToldNext fails left is_at past run fault
    unfolding link
    lacks_room runs.TooMany h = inl (h.0, link, again_behind h.0 h.1, h.2)
    lacks_room runs.NoMemory h = out_of_memory
    lacks_room runs.UnreadPolicy h = absurd h
    lacks_room runs.OtherPolicy h = absurd h
    lacks_room (runs.BadPolicy f) h = absurd h
    lacks_room (runs.NotGrown f) h = absurd h
    lacks_room (runs.BadBook f) h = absurd h
    lacks_room runs.OtherBook h = absurd h

    pub untold_if_none : (result : Result Past RunFault) →
        IfErr result (LacksRoom wall entries past.entries) →
        IfErr result (IsNotToldNext fails left is_at past run)
    untold_if_none (Ok new) h = tt
    untold_if_none (Err fault) h = lacks_room fault h

  -- ---- its book is too long

  pub told_if_long : (number : ℕ) (was is : List ℕ) (result : Result Past RunFault) →
      IsLongRun fails left is_at past run → is ≡ was ++ long_line number →
      IfOk result (HasRead fails left is_at past run) →
      IfOk result (IsToldNext fails left is_at past run number was is)
  told_if_long number was is (Ok new) long told read =
      (read, long_line number, inr ((long.1, long.2.2), refl), told)
  told_if_long number was is (Err fault) long told read = tt

  pub long_out_of_memory : IsLongRun fails left is_at past run →
      IsNotToldNext fails left is_at past run runs.NoMemory
  long_out_of_memory long =
      inr (long.0, long.1, inr (long.2.0, long.2.1, inr (inr (refl, long.2.2.0))))

-- ---- one run more

module _ {D : Type 0} (fails : D → ℕ) (left : D → Option (List ℕ))
    (is_at : D → List ℕ → Type 0) where
  pub next_given : (all : List Run) (i : ℕ) (run : Run) → i < length all →
      run ≡ get_or all i run → (links : List Link) (r : Link) (number : ℕ) → number ≡ i + 1 →
      (was own is : List ℕ) → AreGiven fails left is_at (reverse (take i all)) links was →
      IsGivenBy fails left is_at run number r own → is ≡ was ++ own →
      AreGiven fails left is_at (reverse (take (i + 1) all)) (r ∷ links) is
  next_given all i run low at links r number nth was own is given by told =
      let few : length (take i all) ≡ i = length-take-le i all (omega (arith, low)) in
      let same : number ≡ length (reverse (take i all)) + 1 =
      nth ∙ ap (λ n. n + 1) (sym (length-reverse (take i all) ∙ few)) in
      subst (λ l. AreGiven fails left is_at l (r ∷ links) is)
      (sym (newest_first all i run low at))
      (was, own, given, subst (λ n. IsGivenBy fails left is_at run n r own) same by, told)

-- ---- the section

-- it has its heading where there are lines
pub section_is : (lines : List ℕ) → (length lines == 0) ≡ false →
    given_section lines ≡ codes "\nwhat earlier runs gave, and by which entry:\n" ++ lines
section_is [] some = absurd (cc)
section_is (c ∷ lines) some = refl

-- what is written behind a front that was written
pub behind : {A E : Type 0} (result : Result A E) (old front mid back new : List ℕ) →
    mid ≡ old ++ front → new ≡ (if is_ok result then mid ++ back else mid) →
    OnOk result (new ≡ old ++ (front ++ back))
behind (Ok x) old front mid back new first more =
    more ∙ ap (λ t. t ++ back) first ∙ append_assoc old front back
behind (Err fault) old front mid back new first more = tt
