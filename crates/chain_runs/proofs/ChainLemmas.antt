-- A run that was read by the readers of its paths, and lists of runs.
use Rattle.std.proofs.Common.{◌≡◌, ℕ, zero, suc, ◌+◌, ◌<◌, List, [], ◌∷◌, ◌++◌, length, take}
use Rattle.std.proofs.Common.{drop, reverse, get_or, Option, sym, ap, subst, ◌∙◌}
use Rattle.std.proofs.Common.{arith, append_assoc}
use Rattle.std.proofs.lemmas.List.{reverse-append, take-append-drop}
use Rattle.wall_policy.specs.Policy.{ChineseWall}
use Rattle.run_model.specs.Chains.{Link}
use Rattle.hall_script.specs.Devices.{used}
use Rattle.chain_file.specs.declared.run.Run.{Run}
use Rattle.chain_runs.specs.declared.fault.RunFault.{RunFault}
use Rattle.chain_runs.specs.declared.fault.RunFault.TheVariants.{UnreadPolicy, OtherPolicy}
use Rattle.chain_runs.specs.declared.fault.RunFault.TheVariants.{BadPolicy, NotGrown, BadBook}
use Rattle.chain_runs.specs.declared.fault.RunFault.TheVariants.{OtherBook, TooMany, NoMemory}
use Rattle.chain_runs.specs.declared.runs.Past.{Past}
use Rattle.chain_runs.specs.Runs.{Stands}
use Rattle.chain_runs.specs.Faults.{IsRunFault}
use Rattle.chain_runs.specs.Chains.{Reading, StandsBehind, IsNotRead, AreRead, IsPast, HasRead}
use Rattle.chain_runs.specs.Chains.{entries_of}

-- ---- lists

one_more : {A : Type 0} (xs : List A) (i : ℕ) (x : A) → i < length xs → x ≡ get_or xs i x →
    take (i + 1) xs ≡ take i xs ++ x ∷ []
one_more [] i x low at = absurd (omega (arith, low))
one_more (y ∷ xs) zero x low at = ap (λ z. z ∷ []) (sym at)
one_more (y ∷ xs) (suc i) x low at = ap (λ n. take n (y ∷ xs))
    (let z : suc i + 1 ≡ suc (i + 1) = omega arith in z)
    ∙ ap (λ zs. y ∷ zs) (one_more xs i x (omega (arith, low)) at)

module _ {A : Type 0} (xs : List A) (i : ℕ) (x : A) (low : i < length xs)
    (at : x ≡ get_or xs i x) where
  pub parted : take i xs ++ (x ∷ drop (i + 1) xs) ≡ xs
  parted = sym (append_assoc (take i xs) (x ∷ []) (drop (i + 1) xs))
      ∙ ap (λ l. l ++ drop (i + 1) xs) (sym (one_more xs i x low at))
      ∙ take-append-drop (i + 1) xs

  pub newest_first : reverse (take (i + 1) xs) ≡ x ∷ reverse (take i xs)
  newest_first = ap reverse (one_more xs i x low at) ∙ reverse-append (take i xs) (x ∷ [])

-- ---- runs

module _ {D : Type 0} (fails : D → ℕ) (left : D → Option (List ℕ))
    (is_at : D → List ℕ → Type 0) where
  pub reading_at : (first last : D) (path at : List ℕ) → is_at first path → path ≡ at →
      Reading fails left is_at at
  reading_at first last path at is same =
      record { first = first; last = last; at = subst (is_at first) same is }

  module _ (past : Past) (after : Option ChineseWall) (same : after ≡ past.policy) (run : Run)
      (p q b d : D) (by_policy by_book : List ℕ) (p_is : is_at p by_policy)
      (same_policy : by_policy ≡ run.begun.policy) (b_is : is_at b by_book)
      (same_book : by_book ≡ run.begun.book) where
    pub stands_behind : (now : ChineseWall) (r : Link) →
        Stands after run (used fails left p q) (used fails left b d) now r →
        StandsBehind fails left is_at past.policy run now r
    unfolding reading_at
    stands_behind now r stands = record {
      policy = reading_at p q by_policy run.begun.policy p_is same_policy;
      book = reading_at b d by_book run.begun.book b_is same_book;
      stands = subst
          (λ o. Stands o run (used fails left p q) (used fails left b d) now r) same stands;
    }

    fault_behind : (fault : RunFault) →
        IsRunFault after run (used fails left p q) (used fails left b d) fault →
        (policy : Reading fails left is_at run.begun.policy)
        × (book : Reading fails left is_at run.begun.book)
        × IsRunFault past.policy run (used fails left policy.first policy.last)
        (used fails left book.first book.last) fault
    unfolding reading_at
    fault_behind fault why = (
      reading_at p q by_policy run.begun.policy p_is same_policy,
      reading_at b d by_book run.begun.book b_is same_book,
      subst (λ o. IsRunFault o run (used fails left p q) (used fails left b d) fault) same why,
    )

    pub not_read : (fault : RunFault) →
        IsRunFault after run (used fails left p q) (used fails left b d) fault →
        IsNotRead fails left is_at past run fault
    not_read UnreadPolicy why = fault_behind UnreadPolicy why
    not_read OtherPolicy why = fault_behind OtherPolicy why
    not_read (BadPolicy f) why = fault_behind (BadPolicy f) why
    not_read (NotGrown f) why = fault_behind (NotGrown f) why
    not_read (BadBook f) why = fault_behind (BadBook f) why
    not_read OtherBook why = fault_behind OtherBook why
    not_read NoMemory why = fault_behind NoMemory why
    not_read TooMany why = absurd why.0

  -- one run more
  pub next_past : (runs : List Run) (i : ℕ) (run : Run) → i < length runs →
      run ≡ get_or runs i run → (links : List Link) (old new : Past) →
      IsPast fails left is_at (take i runs) links old →
      (read : HasRead fails left is_at old run new) →
      IsPast fails left is_at (take (i + 1) runs) (read.1 ∷ links) new
  unfolding entries_of
  next_past runs i run low at links old new past read = record {
    read = subst (λ l. AreRead fails left is_at l (read.1 ∷ links) new.policy)
        (sym (newest_first runs i run low at))
        (subst (λ o. AreRead fails left is_at (run ∷ reverse (take i runs)) (read.1 ∷ links) o)
        (sym read.3) (old.policy, past.read, read.2));
    chain = read.5 links past.chain;
    entries = read.4 ∙ ap (λ n. n + length read.1.book) past.entries;
  }
