-- Policies after earlier books.
use Rattle.std.proofs.Common.{◌≡◌, ◌⊎◌, inl, inr, ℕ, List, [], ◌∷◌, ◌++◌, reverse, Option, Bor}
use Rattle.std.proofs.Common.{refl, sym, ap, ◌∙◌, subst, length, arith}
use Rattle.std.proofs.lemmas.List.{reverse-append, append-nil}
use Rattle.wall_policy.specs.Policy.{ChineseWall, IsPolicy, first_processes}
use Rattle.run_model.specs.Books.{book}
use Rattle.run_model.specs.Chains.{Link}
use Rattle.run_model.specs.Runs.{posts}
use Rattle.run_model.proofs.RunModelLemmas.{book_is_sound, chains_keep_the_wall, legal_proper}
use Rattle.run_model.specs.Years.{OverYears}
use Rattle.book_chain.specs.Chain.{ChainValue, begun}
use Rattle.hall_script.specs.Devices.{Used}
use Rattle.program_commands.specs.declared.earlier.Earlier.{Earlier}
use Rattle.program_commands.specs.declared.ending.Ending.{Ending}
use Rattle.program_commands.specs.declared.ending.Ending.TheVariants as endings
use Rattle.program_commands.specs.Walls.{IsPolicyOf, IsNoPolicy}
use Rattle.program_commands.specs.Auditing.{IsNoBook}
use Rattle.program_commands.specs.Earlier.{EarlierBooks, earlier_books, reader, AreRead}
use Rattle.program_commands.specs.Earlier.{IsAfter, IsPolicyAfter, IsWallAfter, IsNoLink, IsBroken}
use Rattle.program_commands.specs.Earlier.{IsNoWallAfter, earlier_ending, IsLink}

-- a book that is none gives no policy, and its fault is told by its path
pub no_link : {D : Type 0} (was : ChainValue) (device : Used D) (path : Bor (List ℕ))
    (ending : Ending) → IsNoBook was.wall device ending →
    IsNoLink was device path.now (earlier_ending path ending)
no_link was device path (endings.BadBookLine n) h = (refl, h)
no_link was device path endings.CutBook h = (refl, h)
no_link was device path endings.ReadFault h = h
no_link was device path endings.NoMemory h = h
no_link was device path endings.Done h = absurd h
no_link was device path (endings.BadPolicy f) h = absurd h
no_link was device path (endings.BadLine n f) h = absurd h
no_link was device path (endings.Unsound n) h = absurd h
no_link was device path (endings.BadEarlier p f) h = absurd h
no_link was device path endings.WriteFault h = absurd h
no_link was device path endings.NoThread h = absurd h
no_link was device path endings.Exhausted h = absurd h
no_link was device path endings.BadArguments h = absurd h
no_link was device path (endings.Unread p w) h = absurd h

module _ {D : Type 0} (failures : D → ℕ) (bytes : D → Option (List ℕ)) where
  -- no book was read
  pub none_read : (first : ChineseWall) →
      IsAfter first (earlier_books failures bytes []) [] (begun first)
  none_read first = record { read = refl; stands = (tt, tt) }

  -- the readers of a chain are those of another that has the same readers
  same_readers : (all other : List (Earlier D)) (first : ChineseWall) (readers : List (Earlier D))
      (links : List Link) (now : ChainValue) →
      AreRead (earlier_books failures bytes all) first readers links now →
      AreRead (earlier_books failures bytes other) first readers links now
  same_readers all other first [] [] now h = h
  same_readers all other first [] (r ∷ older) now h = absurd h
  same_readers all other first (one ∷ before) [] now h = absurd h
  same_readers all other first (one ∷ before) (r ∷ older) now h =
      (h.0, (same_readers all other first before older h.0 h.1.0, h.1.1, h.1.2, h.1.3))

  -- one book more was read
  pub one_more : (first : ChineseWall) (before : List (Earlier D)) (one : Earlier D) (left : D)
      (links : List Link) (was now : ChainValue) →
      IsAfter first (earlier_books failures bytes before) links was →
      IsLink was (reader (earlier_books failures bytes before) one left) now →
      (longer : List Link)
      × IsAfter first (earlier_books failures bytes (before ++ (one ∷ []))) longer now
  one_more first before one left links was now so link =
      let all = before ++ (one ∷ []) in
      let turned : reverse all ≡ one ∷ reverse before = reverse-append before (one ∷ []) in
      let longer =
      record { wall = first_processes now.least was.wall; book = link.0 } ∷ links in (
        longer,
        record {
          read = subst (λ readers. AreRead (earlier_books failures bytes all) first readers longer
              now) (sym turned) (
                was,
                (
                  same_readers before all first (reverse before) links was so.read,
                  (left, link.1),
                  refl,
                  link.2,
                ),
              );
          stands = link.3 links so.stands;
        },
      )

  -- those that were read are all
  pub all_read : (first wall : ChineseWall) (done rest all : List (Earlier D)) (links : List Link)
      (now : ChainValue) → done ++ rest ≡ all → length rest ≡ 0 → wall ≡ now.wall →
      IsAfter first (earlier_books failures bytes done) links now →
      IsAfter first (earlier_books failures bytes all) links
      (record { wall = wall; least = now.least })
  all_read first wall done [] all links now are none is after =
      subst (λ l. IsAfter first (earlier_books failures bytes l) links
      (record { wall = wall; least = now.least })) (sym (append-nil done) ∙ are)
      (subst (λ (w : ChineseWall). IsAfter first (earlier_books failures bytes done) links
      (record { wall = w; least = now.least })) (sym is) after)
  all_read first wall done (one ∷ rest) all links now are none is after =
      absurd (omega (arith, none))

-- what comes after these books keeps the wall
pub goes_on_after : {D : Type 0} (earlier : EarlierBooks D) (first wall : ChineseWall)
    (links : List Link) (least : ℕ) →
    IsAfter first earlier links (record { wall = wall; least = least }) → IsPolicy wall →
    OverYears → IsPolicyAfter first earlier wall
goes_on_after earlier first wall links least after is over = record {
  links = links;
  least = least;
  after = after;
  books_keep = λ entries sound. chains_keep_the_wall links wall entries is after.stands.0 sound;
  runs_keep = λ run legal. chains_keep_the_wall links wall (book wall (posts run)) is after.stands.0
      (book_is_sound wall (posts run) (legal_proper wall run legal).posts);
  years_keep = λ run p d e legal were held_d held_e. over.apart links wall run p d e is
      after.stands.0 legal were held_d held_e;
  had = λ p d low nothing held. over.had links wall p d low nothing after.stands.0 held;
}

-- ---- no earlier book

-- each of two cases, as it goes on
pub both_cases : {A B C D : Type 0} → A ⊎ B → (A → C) → (B → D) → C ⊎ D
both_cases (inl a) f g = inl (f a)
both_cases (inr b) f g = inr (g b)

module _ {P D : Type 0} (failures : D → ℕ) (bytes : D → Option (List ℕ)) (policy : Used P) where
  no_chain : (first : ChineseWall) (now : ChainValue) (links : List Link) →
      IsAfter first (earlier_books failures bytes []) links now → first ≡ now.wall
  no_chain first now [] h = sym (ap (λ (c : ChainValue). c.wall) h.read)
  no_chain first now (r ∷ older) h = absurd h.read

  -- the policy is the one that was read
  pub policy_alone : (wall : ChineseWall) →
      IsWallAfter policy (earlier_books failures bytes []) wall → IsPolicyOf policy wall
  policy_alone wall h =
      let now = h.goes_on in
      subst (IsPolicyOf policy)
      (no_chain h.first (record { wall = wall; least = now.least }) now.links now.after) h.read

  none_broken : (first : ChineseWall) (ending : Ending) →
      IsBroken first (earlier_books failures bytes []) ending → ⊥
  none_broken first ending h = nothing_first h.before h.one h.behind h.are
    where
      nothing_first : (before : List (Earlier D)) (one : Earlier D) (behind : List (Earlier D)) →
          before ++ (one ∷ behind) ≡ [] → ⊥
      nothing_first [] one behind e = cc
      nothing_first (x ∷ xs) one behind e = cc

  pub no_policy_alone : (ending : Ending) →
      IsNoWallAfter policy (earlier_books failures bytes []) ending → IsNoPolicy policy ending
  no_policy_alone ending (inl none) = none
  no_policy_alone ending (inr (first, read, broken)) = absurd (none_broken first ending broken)
