-- What was due at the first bad entry.
use Rattle.std.proofs.Common.{◌≡◌, ℕ, ◌+◌, ◌-◌, ◌<◌, ◌≤◌, List, [], ◌∷◌, ◌++◌, length, take}
use Rattle.std.proofs.Common.{drop, Some, None, refl, sym, ap, ◌∙◌, subst, arith}
use Rattle.std.proofs.Common.{append_assoc, inl, inr, Bool, not}
use Rattle.std.specs.Prelude.{All}
use Rattle.std.specs.Option.{option_to_list}
use Rattle.std.proofs.lemmas.List.{append-nil, take_all, take-append-drop}
use Rattle.std.proofs.lemmas.Bool.{cases_lt, and_parts}
use Rattle.std.proofs.lemmas.List.Elements.{All-take}
use Rattle.std.proofs.lemmas.Option.{slice_get_within}
use Rattle.wall_policy.specs.Policy.{ChineseWall, IsPolicy}
use Rattle.wall_verdict.specs.Star.{star}
use Rattle.coll_routes.specs.declared.statement.Stated.{Stated}
use Rattle.run_model.specs.declared.entry.Entry.{Entry}
use Rattle.run_model.specs.declared.entry.Entry.TheVariants.{Posted, Settled}
use Rattle.run_model.specs.Posts.{Post, outcome}
use Rattle.run_model.specs.Books.{posted, post_in, posts_in, outcome_entry, entries_for}
use Rattle.run_model.specs.Books.{IsCounted, IsSound, Begins, IsFirstBad}
use Rattle.run_model.specs.Books.{histories_before, is_labelled}
use Rattle.run_model.specs.EntryForms.{is_formed, HasForm}
use Rattle.run_model.specs.Refusals.{post_fault}
use Rattle.run_model.specs.declared.refusal.Refusal.{Refusal}
use Rattle.run_model.specs.Known.{IsKnownEntry}
use Rattle.run_model.proofs.RunModelLemmas.{book_is_sound}
use Rattle.audit_book.specs.Checks.{post_of}
use Rattle.audit_book.specs.Dues.{IsDueBehind}
use Rattle.audit_book.proofs.AuditBookLemmas.{take_more}
use Rattle.book_seal.proofs.BookSealLemmas.{due_known}
use Rattle.book_places.specs.Owed.{before, IsEntryAt, LacksVerdict, HasRefusedPost, HasOtherWord}

-- a verdict is no post
no_post : (e : Entry) → posts_in (e ∷ []) ≡ [] → post_in e ≡ None
no_post (Settled c k o) h = refl
no_post (Posted p c s) h = absurd (cc)

module _ (wall : ChineseWall) where
  -- a prefix of what a sound book begins with
  begins_prefix : (es : List Entry) (m : ℕ) → Begins wall es → Begins wall (take m es)
  begins_prefix es m (rest, sound) =
      let same : es ++ rest ≡ take m es ++ (drop m es ++ rest) =
      ap (λ xs. xs ++ rest) (sym (take-append-drop m es))
      ∙ append_assoc (take m es) (drop m es) rest in
      (drop m es ++ rest, subst (IsSound wall) same sound)

  -- no prefix of it is bad
  pub none_bad : (es : List Entry) (m : ℕ) → Begins wall es → IsFirstBad wall es m →
      m ≤ length es → ⊥
  none_bad es m begins bad low = bad.wrong low (begins_prefix es m begins)

  -- a sound book goes on with a post that counts
  post_goes_on : (es : List Entry) (x : Post) → IsSound wall es →
      IsCounted wall x (posts_in es) → Begins wall (es ++ posted x ∷ [])
  post_goes_on es x sound counted =
      let rest = option_to_list (outcome_entry x (posts_in es) (outcome wall x (posts_in es))) in (
        rest,
        subst (IsSound wall)
            (ap (λ b. b ++ entries_for wall x (posts_in es)) (sym sound.given)
            ∙ sym (append_assoc es (posted x ∷ []) rest))
            (book_is_sound wall (x ∷ posts_in es) (sound.posts, counted)),
      )

  module _ (es : List Entry) (n : ℕ) (bad : IsFirstBad wall es n) where
    -- the entry that stands there makes the entries unsound
    wrong_at : (e : Entry) → IsEntryAt es n e → Begins wall (before n es ++ e ∷ []) → ⊥
    wrong_at e there begins =
        let low = slice_get_within es (n - 1) e there in
        let one = bad.counted in
        let next : n - 1 + 1 ≡ n = omega arith in
        bad.wrong (omega (arith, low))
        (subst (λ m. Begins wall (take m es)) next
        (subst (Begins wall) (sym (take_more es (n - 1) e there)) begins))

    -- nothing is missing behind a sound book
    pub within : IsSound wall (before n es) → n - 1 < length es
    within sound = elim (cases_lt (n - 1) (length es)) [
      | inl low ↦ low
      | inr high ↦
          let last : n ≡ length es + 1 =
          (let one = bad.counted in let most = bad.within in omega arith) in
          absurd (bad.missing last (subst (IsSound wall) (take_all (n - 1) es high) sound))
    ]

    module _ (p c : ℕ) (s : Stated) (there : IsEntryAt es n (Posted p c s))
        (sound : IsSound wall (before n es)) where
      abbrev post : Post
      post = post_of p c s

      pub has_refused_post : (refusal : Refusal) →
          post_fault wall (posts_in (before n es)) post ≡ Some refusal →
          HasRefusedPost wall es n refusal
      has_refused_post refusal refused =
          record { sound = sound; post = post; at = there; refused = refused }

      -- a post that meets no refusal and has a label where it gives elements counts with that word
      pub has_other_word : (barred : Bool) →
          post_fault wall (posts_in (before n es)) post ≡ None → HasForm (Posted p c s) →
          barred ≡ not (star (histories_before wall es n) p s.label) → HasOtherWord wall es n barred
      has_other_word barred accepted form due = record {
        sound = sound;
        post = post;
        at = there;
        accepted = accepted;
        due = due;
        other = λ same. wrong_at (Posted p c s) there
            (post_goes_on (before n es) post sound (record {
              accepted = accepted;
              label = (and_parts (is_formed s.sig s.own) (is_labelled s) form).1;
              word = same ∙ due;
            }));
      }

    pub lacks_verdict : (prefix : List Entry) → prefix ≡ before n es → (due : Entry) →
        IsDueBehind wall prefix (Some due) → LacksVerdict wall es n due
    lacks_verdict prefix same due behind = record {
      sound = subst (λ f. IsSound wall (f ++ due ∷ [])) same behind.sound;
      verdict = no_post due behind.no_post;
      other = λ e there is. wrong_at e there (
        [],
        subst (IsSound wall)
            (ap (λ f. f ++ due ∷ []) same ∙ ap (λ d. before n es ++ d ∷ []) (sym is)
            ∙ sym (append-nil (before n es ++ e ∷ [])))
            behind.sound,
      );
    }

    -- the entries before are no book with a bad entry
    pub none_within : (prefix : List Entry) → prefix ≡ before n es → (m : ℕ) →
        IsFirstBad wall prefix m → m ≤ length prefix → ⊥
    none_within prefix same m first low =
        none_bad prefix m (subst (Begins wall) (sym same) bad.before) first low

    -- what is due behind known entries is known
    pub owed_known : (prefix : List Entry) → prefix ≡ before n es → (due : Entry) →
        IsPolicy wall → IsDueBehind wall prefix (Some due) → All (IsKnownEntry wall) es →
        IsKnownEntry wall due
    owed_known prefix same due policy behind known =
        due_known wall prefix due policy
        (subst (All (IsKnownEntry wall)) (sym same) (All-take (IsKnownEntry wall) (n - 1) es known))
        behind
