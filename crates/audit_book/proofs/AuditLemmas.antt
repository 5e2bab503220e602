-- How an audit goes on by one entry, or does not.
use Rattle.std.proofs.Common.{◌≡◌, ℕ, zero, suc, ◌+◌, ◌-◌, ◌<◌, ◌≤◌, List, [], ◌∷◌, ◌++◌, length, take, slice_get}
use Rattle.std.proofs.Common.{refl, sym, ap, ◌∙◌, subst, arith, Option, Some, None, append_assoc}
use Rattle.std.specs.Prelude.{◌^◌}
use Rattle.std.specs.Option.{option_map, option_to_list}
use Rattle.std.proofs.lemmas.List.{append-nil, length-append}
use Rattle.std.proofs.lemmas.Option.{slice_get_within}
use Rattle.wall_policy.specs.Policy.{ChineseWall}
use Rattle.coll_routes.specs.declared.statement.Stated.{Stated}
use Rattle.run_model.specs.declared.entry.Entry.{Entry}
use Rattle.run_model.specs.declared.entry.Entry.TheVariants.{Posted, Settled}
use Rattle.run_model.specs.Posts.{outcome}
use Rattle.run_model.specs.Books.{book, posts_in, outcome_entry, IsCounted, IsSound, Begins}
use Rattle.run_model.specs.Books.{IsFirstBad}
use Rattle.run_model.proofs.RunModelLemmas.{book_is_sound, posts_in-append}
use Rattle.run_state.specs.declared.entered.Entered.{Entered}
use Rattle.run_state.specs.Views.{PostStateValue, view_of}
use Rattle.run_state.specs.Stands.{StandsForPosts}
use Rattle.audit_book.specs.declared.audit.Audit.{Audit}
use Rattle.audit_book.specs.declared.audit.Step.TheVariants.{Counted, Stood}
use Rattle.audit_book.specs.declared.audit.StepFault.{StepFault}
use Rattle.audit_book.specs.declared.audit.StepFault.TheVariants as faults
use Rattle.audit_book.specs.declared.check_fault.BookFault.{BookFault}
use Rattle.audit_book.specs.declared.check_fault.BookFault.TheVariants.{BadEntry, NoMemory}
use Rattle.audit_book.specs.declared.due.Due.{Due}
use Rattle.audit_book.specs.Checks.{entry_of, post_of, bare, due_after, Stands, IsRight, IsToldOf}
use Rattle.audit_book.specs.Checks.{Counts}
use Rattle.audit_book.specs.Dues.{IsDueBehind, IsFaultWithin}
use Rattle.audit_book.specs.Audits.{HasSeen, Did, IsStepFault, book_fault}
use Rattle.audit_book.proofs.CheckLemmas.{told_is}
use Rattle.audit_book.proofs.DueLemmas.{right_is_due}
use Rattle.audit_book.proofs.StepLemmas.{right_at_first, settled_right, other_wrong, settled_wrong}
use Rattle.audit_book.proofs.StepLemmas.{posted_wrong, posted_right, right_begins, bad_at, bad_end}
use Rattle.audit_book.proofs.StepLemmas.{length_prefix, posts_few, no_more, take_whole}

take_prefix : (es more : List Entry) (n : ℕ) → n ≤ length es → take n (es ++ more) ≡ take n es
take_prefix [] [] zero h = refl
take_prefix [] (x ∷ more) zero h = refl
take_prefix [] more (suc n) h = absurd (omega arith)
take_prefix (x ∷ es) more zero h = refl
take_prefix (x ∷ es) more (suc n) h = ap (λ zs. x ∷ zs) (take_prefix es more n (omega arith))

one_more : (es : List Entry) (e : Entry) → length (es ++ e ∷ []) ≡ length es + 1
one_more es e = let long = length-append es (e ∷ []) in omega (arith, long)

module _ (wall : ChineseWall) where
  pub seen_due : (audit : Audit) (es : List Entry) → HasSeen wall audit es →
      IsDueBehind wall es (option_map entry_of audit.due)
  seen_due audit es seen = right_is_due wall audit.post_state es audit.due _ refl seen.right

  module _ (audit : Audit) (es : List Entry) (seen : HasSeen wall audit es) where
    -- ---- where an outcome is due

    module _ (due : Due) (is : audit.due ≡ Some due) (e : Entry) where
      right_due : IsRight wall audit.post_state es (Some due)
      right_due = subst (IsRight wall audit.post_state es) is seen.right

      pub other_stops : (e ≡ entry_of due → ⊥) → HasSeen wall audit es
          × (IsDueBehind wall es (Some (entry_of due)) × (Begins wall (es ++ e ∷ []) → ⊥))
      other_stops other = (
        seen,
        (
          right_is_due wall audit.post_state es (Some due) _ refl right_due,
          other_wrong wall audit.post_state es due e right_due other,
        ),
      )

      pub settles : e ≡ entry_of due →
          HasSeen wall (record {
            post_state = audit.post_state;
            due = None;
            entries = audit.entries
                + 1;
          }) (es ++ e ∷ []) × Did wall es e Stood
      settles same = subst (λ x. HasSeen wall (record {
        post_state = audit.post_state;
        due = None;
        entries = audit.entries + 1;
      }) (es ++ x ∷ []) × Did wall es x Stood) (sym same) (
        record {
          number = ap (λ n. n + 1) seen.number ∙ sym (one_more es (entry_of due));
          right = settled_right wall audit.post_state es due right_due;
        },
        tt,
      )

    -- ---- where none is due

    module _ (none : audit.due ≡ None) where
      right_none : IsRight wall audit.post_state es None
      right_none = subst (IsRight wall audit.post_state es) none seen.right

      none_behind : IsDueBehind wall es None
      none_behind = right_is_due wall audit.post_state es None _ refl right_none

      pub settled_stops : (e : Entry) (c k : ℕ) (o : _) → e ≡ Settled c k o → HasSeen wall audit es
          × (IsDueBehind wall es None × (Begins wall (es ++ e ∷ []) → ⊥))
      settled_stops e c k o is = (
        seen,
        (
          none_behind,
          λ begins. settled_wrong wall audit.post_state es c k o right_none
              (subst (λ x. Begins wall (es ++ x ∷ [])) is begins),
        ),
      )

      -- a state that looks the same stands for the same
      same_seen : (new : PostStateValue (Unit {0})) → view_of new ≡ view_of audit.post_state →
          HasSeen wall (record { post_state = new; due = audit.due; entries = audit.entries }) es
      same_seen new same = record {
        number = seen.number;
        right = record {
          posts = seen.right.posts;
          given = seen.right.given;
          stood = subst (λ v. StandsForPosts wall v (bare (posts_in es))) (sym same)
              seen.right.stood;
        };
      }

      module _ (p c : ℕ) (s : Stated) where
        pub posted_stops : (new : PostStateValue (Unit {0})) →
            view_of new ≡ view_of audit.post_state → ((past : List _) →
            Stands wall audit.post_state past → ¬ (IsCounted wall (post_of p c s) past)) →
            HasSeen wall (record { post_state = new; due = audit.due; entries = audit.entries }) es
            × (IsDueBehind wall es None × (Begins wall (es ++ Posted p c s ∷ []) → ⊥))
        posted_stops new same wrong = (
          same_seen new same,
          (none_behind, posted_wrong wall es p c s (wrong (posts_in es) right_none.stood)),
        )

        whole : IsCounted wall (post_of p c s) (posts_in es) →
            Begins wall (es ++ Posted p c s ∷ [])
        whole counts =
            let x = post_of p c s in
            let rest = option_to_list (outcome_entry x (posts_in es)
            (outcome wall x (posts_in es))) in (
              rest,
              subst (IsSound wall)
                  (sym (append_assoc es (Posted p c s ∷ []) rest
                  ∙ ap (λ b. b ++ Posted p c s ∷ rest) (sym (append-nil es) ∙ right_none.given)))
                  (book_is_sound wall (x ∷ posts_in es) (right_none.posts, counts)),
            )

        pub lacks_memory : (new : PostStateValue (Unit {0})) →
            view_of new ≡ view_of audit.post_state →
            Counts wall audit.post_state (post_of p c s) →
            HasSeen wall (record { post_state = new; due = audit.due; entries = audit.entries }) es
            × Begins wall (es ++ Posted p c s ∷ [])
        lacks_memory new same counts =
            (same_seen new same, whole (counts (posts_in es) right_none.stood))

        pub posts_on : (new : PostStateValue (Unit {0})) (told : Entered (Unit {0}))
            (due : Option Due) → due ≡ due_after c told →
            IsCounted wall (post_of p c s) (posts_in es) × Stands wall new (post_of p c s
            ∷ posts_in es) × IsToldOf wall (post_of p c s) (posts_in es) told →
            HasSeen wall (record { post_state = new; due = due; entries = audit.entries + 1 })
            (es ++ Posted p c s ∷ []) × IsToldOf wall (post_of p c s) (posts_in es) told
        posts_on new told due is now = (
          record {
            number = ap (λ n. n + 1) seen.number ∙ sym (one_more es (Posted p c s));
            right = posted_right wall audit.post_state new es p c s due right_none now.0 now.1
                (ap (λ d. option_map entry_of d) is
                ∙ told_is wall p c s (posts_in es) told now.2);
          },
          now.2,
        )

    pub few_posts : audit.entries < 2 ^ 62 →
        (x : List _) × (length x < 2 ^ 62) × Stands wall audit.post_state x
    few_posts few = (
      posts_in es,
      (let less = posts_few es in let n = seen.number in omega (arith, less, n, few)),
      seen.right.stood,
    )

-- ---- what is due at the end

pub none_missing : (wall : ChineseWall) (es : List Entry) (told : Option Entry) → told ≡ None →
    IsDueBehind wall es told → IsSound wall es
none_missing wall es told is due = subst (IsSound wall) (append-nil es)
    (subst (λ d. IsSound wall (es ++ option_to_list d)) is due.sound)

pub one_missing : (wall : ChineseWall) (es : List Entry) (told : Option Entry) (e : Entry) →
    told ≡ Some e → IsDueBehind wall es told → IsFirstBad wall es (length es + 1)
one_missing wall es told e is due =
    let right = subst (IsDueBehind wall es) is due in
    bad_end wall es (e ∷ [], right.sound) (λ sound. no_more es e [] (right.sound.given
    ∙ (ap (book wall) (posts_in-append es (e ∷ []) ∙ ap (λ ps. ps ++ posts_in es) right.no_post)
    ∙ sym sound.given)))

-- ---- the fault of a book at one of its entries

pub stops_within : (wall : ChineseWall) (audit : Audit) (es : List Entry) (i : ℕ) (e : Entry)
    (fault : StepFault) → slice_get es i ≡ Some e → length es < 2 ^ 62 →
    HasSeen wall audit (take i es) → IsStepFault wall (take i es) e fault →
    IsFaultWithin wall es (book_fault (i + 1) fault)
stops_within wall audit es i e (faults.Wrong due) at few seen h = (
  bad_at wall es i e at
      (right_begins wall audit.post_state (take i es) audit.due seen.right) h.1,
  let low = slice_get_within es i e at in omega (arith, low),
)
stops_within wall audit es i e faults.Full at few seen h =
    let less = length_prefix es i in absurd (omega (arith, few, less, h))
stops_within wall audit es i e faults.NoMemory at few seen h = tt

-- the same of entries with this one behind them
pub stops_behind : (wall : ChineseWall) (audit : Audit) (es : List Entry) (e : Entry)
    (fault : StepFault) → length es < 2 ^ 62 → HasSeen wall audit es →
    IsStepFault wall es e fault →
    IsFaultWithin wall (es ++ e ∷ []) (book_fault (length es + 1) fault)
stops_behind wall audit es e (faults.Wrong due) few seen h =
    let long = one_more es e in (
      record {
        counted = omega arith;
        within = omega (arith, long);
        before = subst (Begins wall) (sym (take_prefix es (e ∷ []) (length es + 1 - 1)
            (omega arith) ∙ take_whole es (length es + 1 - 1) (omega arith)))
            (right_begins wall audit.post_state es audit.due seen.right);
        wrong = λ _ begins. h.1 (subst (Begins wall)
            (take_whole (es ++ e ∷ []) (length es + 1) (omega (arith, long))) begins);
        missing = λ same. absurd (omega (arith, long, same));
      },
      omega (arith, long),
    )
stops_behind wall audit es e faults.Full few seen h = absurd (omega (arith, few, h))
stops_behind wall audit es e faults.NoMemory few seen h = tt

-- a fault stays where more entries come behind
pub within_more : (wall : ChineseWall) (es more : List Entry) (fault : BookFault) →
    IsFaultWithin wall es fault → IsFaultWithin wall (es ++ more) fault
within_more wall es more (BadEntry n) h =
    let bad = h.0 in
    let low = h.1 in
    let long = length-append es more in (
      record {
        counted = bad.counted;
        within = omega (arith, low, long);
        before = subst (Begins wall) (sym (take_prefix es more (n - 1) (omega (arith, low))))
            bad.before;
        wrong = λ _ begins. bad.wrong low
            (subst (Begins wall) (take_prefix es more n low) begins);
        missing = λ same. absurd (omega (arith, low, long, same));
      },
      omega (arith, low, long),
    )
within_more wall es more NoMemory h = tt
