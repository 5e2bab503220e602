-- A fault that stays with the probe behind the words stays whatever stands behind them.
--
-- Each part of the grammar reads words from the left. Of some words it says one of three things: it
-- reads the same whatever stands behind them; it fails in the same way whatever stands behind them;
-- or it lacks a word, and then the probe is told another fault than the lack of it.
use Rattle.std.proofs.Common.{◌≡◌, ◌≢◌, ℕ, ℤ, ◌==◌, Bool, true, false, not, ◌&&◌, ◌%◌, List}
use Rattle.std.proofs.Common.{[], ◌∷◌, ◌++◌, length, Option, Some, None, Result, Ok, Err, refl, sym}
use Rattle.std.proofs.Common.{ap, ◌∙◌, subst, inl, inr, ◌⊎◌, cond, append-nil}
use Rattle.std.specs.Prelude.{codes}
use Rattle.std.specs.Str.{bytes_eq}
use Rattle.std.proofs.lemmas.Bool.{cases_Bool}
use Rattle.std.specs.Option.{option_map}
use Rattle.wall_labels.specs.declared.label.Label.{Label}
use Rattle.wall_labels.specs.declared.label.Label.TheVariants.{Of}
use Rattle.wall_labels.specs.Ops.{op_of}
use Rattle.wall_policy.specs.Names.{place_of}
use Rattle.mpi_elems.specs.declared.elem_type.ElemType.{ElemType}
use Rattle.mpi_elems.specs.Types.{type_of, is_pair}
use Rattle.mpi_elems.specs.Contents.{Contents, contents}
use Rattle.mpi_elems.specs.Elements.{elements_of}
use Rattle.coll_routes.specs.declared.kind.Kind.{Kind}
use Rattle.coll_routes.specs.declared.kind.Kind.TheVariants as kinds
use Rattle.coll_routes.specs.declared.signature.Signature.{Signature}
use Rattle.coll_routes.specs.declared.statement.Own.{Own}
use Rattle.coll_routes.specs.Kinds.{kind_of}
use Rattle.coll_routes.specs.Signatures.{elem_type}
use Rattle.coll_text.specs.declared.fault.LineFault.{LineFault}
use Rattle.coll_text.specs.declared.fault.LineFault.TheVariants.{BadShape, BadField, BadKind}
use Rattle.coll_text.specs.declared.fault.LineFault.TheVariants.{BadVerb, BadLabel, BadNumber}
use Rattle.coll_text.specs.declared.fault.LineFault.TheVariants.{BadType, UnknownOp, OddPair}
use Rattle.coll_text.specs.Numbers.{Word, number_within, signed_within}
use Rattle.coll_text.specs.Reading.{◌>>=◌, some_or, word_at, number_at, number_up_to, ended}
use Rattle.coll_text.specs.Reading.{each_of}
use Rattle.coll_text.specs.Reading.{list_of}
use Rattle.coll_text.specs.Table.{forms_of, no_fields, signature_of, own_of}
use Rattle.coll_text.specs.Fields.{colour_of, with_field, fields_at}
use Rattle.coll_text.specs.Fields.{statement_at}
use Rattle.coll_text.specs.Words.{label_of}
use Rattle.run_model.specs.declared.call.Act.{Act}
use Rattle.run_model.specs.declared.call.Act.TheVariants.{Post, Take, Info}
use Rattle.run_model.specs.declared.call.Call.{Call}
use Rattle.hall_script.specs.Lines.{value_of, buffer_of, values_of, labelled, given_of, post_of}
use Rattle.hall_script.specs.Lines.{last_number, act_of, verb_of, call_of}
use Rattle.script_places.specs.Places.{HaveFault}
use Rattle.script_places.specs.Cuts.{probe}
use Rattle.script_places.specs.Laws.{ProbeTells}

---- what a part of the grammar says of some words

module _ {A : Type 0} where
  -- it reads the same whatever stands behind the words
  pub record Reads (read : List Word → Result (A × List Word) LineFault) (ws : List Word)
      : Type 0 where
    pub got : A
    pub left : List Word
    pub same : (more : List Word) → read (ws ++ more) ≡ Ok (got, left ++ more)

  -- it fails in the same way whatever stands behind them
  pub record Fails (read : List Word → Result A LineFault) (ws : List Word) : Type 0 where
    pub fault : LineFault
    pub same : (more : List Word) → read (ws ++ more) ≡ Err fault

  -- it lacks a word, and the probe is told another fault
  pub record Lacks (read : List Word → Result A LineFault) (ws : List Word) : Type 0 where
    pub told : LineFault
    pub lacks : read ws ≡ Err BadShape
    pub probed : read (ws ++ probe ∷ []) ≡ Err told
    pub other : told ≢ BadShape

  -- it has no fault that the probe has too
  abbrev pub Differs : (read : List Word → Result A LineFault) → (ws : List Word) → Type 0
  Differs read ws = (fault : LineFault) → read ws ≡ Err fault →
      read (ws ++ probe ∷ []) ≡ Err fault → ⊥

-- a part that leaves words, and one that reads to the end
abbrev pub Steady : {A : Type 0} → (List Word → Result (A × List Word) LineFault) → Type 0
Steady read = (ws : List Word) → Reads read ws ⊎ (Fails read ws ⊎ Lacks read ws)

abbrev pub Settles : {A : Type 0} → (List Word → Result A LineFault) → Type 0
Settles read = (ws : List Word) → Fails read ws ⊎ Differs read ws

---- one part behind another

module _ {A B : Type 0} (first : List Word → Result (A × List Word) LineFault) where
  lacks_differs : (then : A × List Word → Result B LineFault) (ws : List Word) → Lacks first ws →
      Differs (λ vs. first vs >>= then) ws
  lacks_differs then ws lack fault one two =
      let here : Err fault ≡ Err BadShape = sym one ∙ ap (λ r. r >>= then) lack.lacks in
      let there : Err fault ≡ Err lack.told = sym two ∙ ap (λ r. r >>= then) lack.probed in
      lack.other (let same : lack.told ≡ BadShape = cc in same)

  fails_then : (then : A × List Word → Result B LineFault) (ws : List Word) → Fails first ws →
      Fails (λ vs. first vs >>= then) ws
  fails_then then ws fail =
      record { fault = fail.fault; same = λ more. ap (λ r. r >>= then) (fail.same more) }

  -- a part that reads to the end
  pub settles_then : (second : A → List Word → Result B LineFault) → Steady first
      → ((x : A) → Settles (second x)) → Settles (λ ws. first ws >>= λ r. second r.0 r.1)
  settles_then second steady settles ws = elim (steady ws) [
    | inl reads ↦ elim (settles reads.got reads.left) [
      | inl fail ↦ inl (record {
        fault = fail.fault;
        same = λ more.
            ap (λ r. r >>= λ s. second s.0 s.1) (reads.same more) ∙ fail.same more;
      })
      | inr differs ↦ inr (λ fault one two.
          differs fault
          (sym (ap (λ r. r >>= λ s. second s.0 s.1) (plain reads)) ∙ one)
          (sym (ap (λ r. r >>= λ s. second s.0 s.1) (reads.same (probe ∷ []))) ∙ two))
    ]
    | inr other ↦ elim other [
      | inl fail ↦ inl (fails_then (λ r. second r.0 r.1) ws fail)
      | inr lack ↦ inr (lacks_differs (λ r. second r.0 r.1) ws lack)
    ]
  ]
    where
      plain : (reads : Reads first ws) → first ws ≡ Ok (reads.got, reads.left)
      plain reads =
          ap first (sym (append-nil ws)) ∙ reads.same []
          ∙ ap (λ (vs : List Word). Ok (reads.got, vs)) (append-nil reads.left)

module _ {A B : Type 0} (first : List Word → Result (A × List Word) LineFault) where
  -- a part that leaves words
  pub steady_then : (second : A → List Word → Result (B × List Word) LineFault) → Steady first
      → ((x : A) → Steady (second x)) → Steady (λ ws. first ws >>= λ r. second r.0 r.1)
  steady_then second steady more_steady ws = elim (steady ws) [
    | inl reads ↦ elim (more_steady reads.got reads.left) [
      | inl again ↦ inl (record {
        got = again.got;
        left = again.left;
        same = λ more.
            ap (λ r. r >>= λ s. second s.0 s.1) (reads.same more) ∙ again.same more;
      })
      | inr other ↦ inr (elim other [
        | inl fail ↦ inl (record {
          fault = fail.fault;
          same = λ more.
              ap (λ r. r >>= λ s. second s.0 s.1) (reads.same more) ∙ fail.same more;
        })
        | inr lack ↦ inr (record {
          told = lack.told;
          lacks = ap (λ r. r >>= λ s. second s.0 s.1) (plain reads) ∙ lack.lacks;
          probed = ap (λ r. r >>= λ s. second s.0 s.1) (reads.same (probe ∷ [])) ∙ lack.probed;
          other = lack.other;
        })
      ])
    ]
    | inr other ↦ inr (elim other [
      | inl fail ↦ inl (fails_then first (λ r. second r.0 r.1) ws fail)
      | inr lack ↦ inr (record {
        told = lack.told;
        lacks = ap (λ r. r >>= λ s. second s.0 s.1) lack.lacks;
        probed = ap (λ r. r >>= λ s. second s.0 s.1) lack.probed;
        other = lack.other;
      })
    ])
  ]
    where
      plain : (reads : Reads first ws) → first ws ≡ Ok (reads.got, reads.left)
      plain reads =
          ap first (sym (append-nil ws)) ∙ reads.same []
          ∙ ap (λ (vs : List Word). Ok (reads.got, vs)) (append-nil reads.left)

-- a part whose answer is made into another
pub settles_map : {A B : Type 0} (read : List Word → Result A LineFault) (make : A → B) →
    Settles read → Settles (λ ws. read ws >>= λ x. Ok (make x))
settles_map {A = A} {B = B} read make settles ws = elim (settles ws) [
  | inl fail ↦ inl (record {
    fault = fail.fault;
    same = λ more. ap (λ r. r >>= λ x. Ok (make x)) (fail.same more);
  })
  | inr differs ↦ inr (λ fault one two.
      differs fault (unmade (read ws) fault one) (unmade (read (ws ++ probe ∷ [])) fault two))
]
  where
    unmade : (r : Result A LineFault) (fault : LineFault) → (r >>= λ x. Ok (make x)) ≡ Err fault →
        r ≡ Err fault
    unmade (Ok x) fault e = absurd cc
    unmade (Err f) fault e =
        let same : f ≡ fault = cc in ap (λ (g : LineFault). Err g) same

---- words that say one thing

-- the word at the front, unless it is empty; and what is read with the words behind it
abbrev word_if : Bool → Word → List Word → Result (Word × List Word) LineFault
word_if b w ws = cond b (Err BadShape) (Ok (w, ws))

abbrev with_rest : {A : Type 0} → A → List Word → Result (A × List Word) LineFault
with_rest x ws = Ok (x, ws)

-- a word that is read as one thing or has a fault
abbrev pub one_word : {A : Type 0} → (Word → Result A LineFault) → List Word →
    Result (A × List Word) LineFault
one_word say ws = word_at ws >>= λ w. say w.0 >>= λ x. Ok (x, w.1)

-- a word that is there
word_said : {A : Type 0} (say : Word → Result A LineFault) (w : Word) (ws : List Word) →
    (length w == 0) ≡ false → (r : Result A LineFault) → say w ≡ r →
    Reads (one_word say) (w ∷ ws)
    ⊎ (Fails (one_word say) (w ∷ ws) ⊎ Lacks (one_word say) (w ∷ ws))
word_said say w ws some (Ok x) is = inl (record {
  got = x;
  left = ws;
  same = λ more.
      ap (λ b. word_if b w (ws ++ more)
      >>= λ v. say v.0 >>= λ y. with_rest y v.1) some
      ∙ ap (λ r. r >>= λ y. with_rest y (ws ++ more)) is;
})
word_said say w ws some (Err fault) is = inr (inl (record {
  fault = fault;
  same = λ more.
      ap (λ b. word_if b w (ws ++ more)
      >>= λ v. say v.0 >>= λ y. with_rest y v.1) some
      ∙ ap (λ r. r >>= λ y. with_rest y (ws ++ more)) is;
}))

-- where the probe is told another fault than the lack of a word
pub steady_word : {A : Type 0} (say : Word → Result A LineFault) (told : LineFault) →
    say probe ≡ Err told → told ≢ BadShape → Steady (one_word say)
steady_word say told e other [] = inr (inr (record {
  told = told;
  lacks = refl;
  probed = ap (λ r. r >>= λ x. with_rest x []) e;
  other = other;
}))
steady_word say told e other (w ∷ ws) = elim (cases_Bool (length w == 0)) [
  | inl t ↦ inr (inl (record {
    fault = BadShape;
    same = λ more. ap (λ b. word_if b w (ws ++ more)
        >>= λ v. say v.0 >>= λ x. with_rest x v.1) t;
  }))
  | inr f ↦ word_said say w ws f (say w) refl
]

-- what is done with a word, and with the words behind it
pub behind_word : {A B : Type 0} (say : Word → Result A LineFault)
    (then : A → List Word → Result B LineFault) (ws : List Word) →
    (one_word say ws >>= λ r. then r.0 r.1) ≡ (word_at ws >>= λ w. say w.0 >>= λ x. then x w.1)
behind_word {A = A} {B = B} say then ws = found (word_at ws)
  where
    said : (vs : List Word) (r : Result A LineFault) →
        ((r >>= λ x. with_rest x vs) >>= λ s. then s.0 s.1) ≡ (r >>= λ x. then x vs)
    said vs (Ok x) = refl
    said vs (Err fault) = refl

    found : (r : Result (Word × List Word) LineFault) →
        ((r >>= λ w. say w.0 >>= λ x. with_rest x w.1) >>= λ s. then s.0 s.1)
        ≡ (r >>= λ w. say w.0 >>= λ x. then x w.1)
    found (Ok w) = said w.1 (say w.0)
    found (Err fault) = refl

pub settles_same : {A : Type 0} (read other : List Word → Result A LineFault)
    → ((ws : List Word) → read ws ≡ other ws) → Settles read → Settles other
settles_same {A = A} read other same settles =
    subst (λ (r : List Word → Result A LineFault). Settles r) (λ i ws. same ws i) settles

pub steady_same : {A : Type 0} (read other : List Word → Result (A × List Word) LineFault)
    → ((ws : List Word) → read ws ≡ other ws) → Steady read → Steady other
steady_same {A = A} read other same steady =
    subst (λ (r : List Word → Result (A × List Word) LineFault). Steady r)
    (λ i ws. same ws i) steady

-- a part that takes no word
pub steady_none : {A : Type 0} (x : A) → Steady (λ ws. Ok (x, ws))
steady_none x ws = inl (record { got = x; left = ws; same = λ more. refl })

---- numbers

number_probe : (most : ℕ) → number_up_to most probe ≡ Err BadField
unfolding number_within
number_probe most = refl

pub steady_number : (most : ℕ) → Steady (number_at most)
steady_number most =
    steady_word (number_up_to most) BadField (number_probe most) (λ same. absurd cc)

settles_ended : {A : Type 0} (x : A) → Settles (λ ws. ended ws x)
settles_ended x [] = inr (λ fault one two. absurd cc)
settles_ended x (w ∷ ws) = inl (record { fault = BadShape; same = λ more. refl })

pub settles_last : (most : ℕ) → Settles (last_number most)
unfolding last_number
settles_last most =
    settles_then (number_at most) (λ n ws. ended ws n) (steady_number most) settles_ended

---- a kind and its fields

-- a word that is told another fault than the lack of one
pub record IsToldOther {A : Type 0} (r : Result A LineFault) : Type 0 where
  pub told : LineFault
  pub is : r ≡ Err told
  pub other : told ≢ BadShape

field : {A : Type 0} {r : Result A LineFault} → r ≡ Err BadField → IsToldOther r
field e = record { told = BadField; is = e; other = λ same. absurd cc }

typed_word : {A : Type 0} {r : Result A LineFault} → r ≡ Err BadType → IsToldOther r
typed_word e = record { told = BadType; is = e; other = λ same. absurd cc }

op_word : {A : Type 0} {r : Result A LineFault} → r ≡ Err UnknownOp → IsToldOther r
op_word e = record { told = UnknownOp; is = e; other = λ same. absurd cc }

-- for each of these forms the probe is told another fault
abbrev pub AreTold : {S F : Type 0} → (S → Word → F → Result F LineFault) → List S → Type 0
AreTold say [] = Unit {0}
AreTold {F = F} say (s ∷ ss) = ((f : F) → IsToldOther (say s probe f)) × AreTold say ss

-- fields that are read one word for each form
module _ {S F : Type 0} (say : S → Word → F → Result F LineFault)
    (read : List S → F → List Word → Result (F × List Word) LineFault)
    (none : (f : F) (ws : List Word) → read [] f ws ≡ Ok (f, ws))
    (more : (s : S) (ss : List S) (f : F) (ws : List Word) →
    read (s ∷ ss) f ws ≡ (word_at ws >>= λ w. say s w.0 f >>= λ g. read ss g w.1)) where
  pub steady_forms : (ss : List S) → AreTold say ss → (f : F) → Steady (read ss f)
  steady_forms [] told f =
      steady_same (λ ws. Ok (f, ws)) (read [] f) (λ ws. sym (none f ws)) (steady_none f)
  steady_forms (s ∷ ss) told f =
      let probed = told.0 f in
      steady_same (λ ws. one_word (λ w. say s w f) ws >>= λ r. read ss r.0 r.1) (read (s ∷ ss) f)
      (λ ws. behind_word (λ w. say s w f) (λ g vs. read ss g vs) ws ∙ sym (more s ss f ws))
      (steady_then (one_word (λ w. say s w f)) (λ g vs. read ss g vs)
      (steady_word (λ w. say s w f) probed.told probed.is probed.other)
      (λ g. steady_forms ss told.1 g))

kinds_told : (kind : Kind) → AreTold with_field (forms_of kind)
unfolding forms_of with_field number_within signed_within colour_of list_of each_of op_of type_of
kinds_told kinds.Barrier = tt
kinds_told kinds.Bcast = (λ f. field refl, (λ f. typed_word refl, (λ f. field refl, tt)))
kinds_told kinds.Gather = (λ f. field refl, (λ f. typed_word refl, (λ f. field refl, tt)))
kinds_told kinds.Gatherv = (λ f. field refl, (λ f. typed_word refl, tt))
kinds_told kinds.Scatter = (λ f. field refl, (λ f. typed_word refl, (λ f. field refl, tt)))
kinds_told kinds.Scatterv = (λ f. field refl, (λ f. typed_word refl, (λ f. field refl, tt)))
kinds_told kinds.Allgather = (λ f. typed_word refl, (λ f. field refl, tt))
kinds_told kinds.Allgatherv = (λ f. typed_word refl, tt)
kinds_told kinds.Alltoall = (λ f. typed_word refl, (λ f. field refl, tt))
kinds_told kinds.Alltoallv = (λ f. typed_word refl, (λ f. field refl, tt))
kinds_told kinds.Reduce =
    (λ f. field refl, (λ f. op_word refl, (λ f. typed_word refl, (λ f. field refl, tt))))
kinds_told kinds.Allreduce = (λ f. op_word refl, (λ f. typed_word refl, (λ f. field refl, tt)))
kinds_told kinds.ReduceScatter = (λ f. op_word refl, (λ f. typed_word refl, (λ f. field refl, tt)))
kinds_told kinds.ReduceScatterBlock =
    (λ f. op_word refl, (λ f. typed_word refl, (λ f. field refl, tt)))
kinds_told kinds.Scan = (λ f. op_word refl, (λ f. typed_word refl, (λ f. field refl, tt)))
kinds_told kinds.Exscan = (λ f. op_word refl, (λ f. typed_word refl, (λ f. field refl, tt)))
kinds_told kinds.NeighborAllgather = (λ f. typed_word refl, (λ f. field refl, tt))
kinds_told kinds.NeighborAllgatherv = (λ f. typed_word refl, tt)
kinds_told kinds.NeighborAlltoall = (λ f. typed_word refl, (λ f. field refl, tt))
kinds_told kinds.NeighborAlltoallv = (λ f. typed_word refl, (λ f. field refl, tt))
kinds_told kinds.Dup = tt
kinds_told kinds.Split = (λ f. field refl, (λ f. field refl, tt))
kinds_told kinds.Create = (λ f. field refl, tt)
kinds_told kinds.CartCreate = (λ f. field refl, (λ f. field refl, tt))
kinds_told kinds.CartSub = (λ f. field refl, tt)

abbrev kind_said : Word → Result Kind LineFault
kind_said w = some_or BadKind (kind_of w)

kind_probe : kind_said probe ≡ Err BadKind
unfolding kind_of
kind_probe = refl

abbrev statement_with : (kind : Kind) → List Word → Result ((Signature × Own) × List Word) LineFault
statement_with kind ws = fields_at (forms_of kind) no_fields ws
    >>= λ f. Ok ((signature_of kind f.0, own_of kind f.0), f.1)

pub steady_statement : Steady statement_at
unfolding statement_at fields_at
steady_statement =
    steady_same (λ ws. one_word kind_said ws >>= λ r. statement_with r.0 r.1) statement_at
    (behind_word kind_said statement_with)
    (steady_then (one_word kind_said) statement_with
    (steady_word kind_said BadKind kind_probe (λ same. absurd cc))
    (λ kind.
    steady_then (fields_at (forms_of kind) no_fields)
    (λ f ws. Ok ((signature_of kind f, own_of kind f), ws))
    (steady_forms with_field fields_at (λ f ws. refl) (λ s ss f ws. refl) (forms_of kind)
    (kinds_told kind) no_fields)
    (λ f. steady_none (signature_of kind f, own_of kind f))))

---- elements

each_fails : {A : Type 0} (read : Word → Result A LineFault) (ws : List Word) (fault : LineFault) →
    each_of read ws ≡ Err fault → (more : List Word) → each_of read (ws ++ more) ≡ Err fault
unfolding each_of
each_fails read [] fault e more = absurd cc
each_fails {A = A} read (w ∷ ws) fault e more =
    here (λ later. each_fails read ws fault later more) (read w) refl
  where
    rest : (x : A) (r : Result (List A) LineFault) → (r >>= λ xs. Ok (x ∷ xs)) ≡ Err fault →
        r ≡ Err fault
    rest x (Ok xs) h = absurd cc
    rest x (Err f) h = h

    here : (each_of read ws ≡ Err fault → each_of read (ws ++ more) ≡ Err fault) →
        (r : Result A LineFault) → read w ≡ r →
        (read w >>= λ x. each_of read (ws ++ more) >>= λ xs. Ok (x ∷ xs)) ≡ Err fault
    here again (Err f) is =
        ap (λ r. r >>= λ x. each_of read (ws ++ more) >>= λ xs. Ok (x ∷ xs)) is
        ∙ sym (ap (λ r. r >>= λ x. each_of read ws >>= λ xs. Ok (x ∷ xs)) is) ∙ e
    here again (Ok x) is =
        let later = rest x (each_of read ws)
        (sym (ap (λ r. r >>= λ y. each_of read ws >>= λ xs. Ok (y ∷ xs)) is) ∙ e) in
        ap (λ r. r >>= λ y. each_of read (ws ++ more) >>= λ xs. Ok (y ∷ xs)) is
        ∙ ap (λ r. r >>= λ xs. Ok (x ∷ xs)) (again later)

each_more : {A : Type 0} (read : Word → Result A LineFault) (v : Word) (told : LineFault) →
    read v ≡ Err told → (ws : List Word) (xs : List A) → each_of read ws ≡ Ok xs →
    each_of read (ws ++ v ∷ []) ≡ Err told
unfolding each_of
each_more {A = A} read v told bad [] xs e =
    ap (λ (r : Result A LineFault). r >>= λ x. Ok (x ∷ [])) bad
each_more {A = A} read v told bad (w ∷ ws) xs e =
    here (λ ys all. each_more read v told bad ws ys all) (read w) refl
  where
    all : (r : Result (List A) LineFault) (x : A) → (r >>= λ ys. Ok (x ∷ ys)) ≡ Ok xs →
        (ys : List A) × (r ≡ Ok ys)
    all (Ok ys) x h = (ys, refl)
    all (Err f) x h = absurd cc

    here : ((ys : List A) → each_of read ws ≡ Ok ys → each_of read (ws ++ v ∷ []) ≡ Err told) →
        (r : Result A LineFault) → read w ≡ r →
        (read w >>= λ x. each_of read (ws ++ v ∷ []) >>= λ ys. Ok (x ∷ ys)) ≡ Err told
    here again (Err f) is = absurd
        (let bad_one : Err f ≡ Ok xs =
        sym (ap (λ r. r >>= λ x. each_of read ws >>= λ ys. Ok (x ∷ ys)) is) ∙ e in cc)
    here again (Ok x) is =
        let later = all (each_of read ws) x
        (sym (ap (λ r. r >>= λ y. each_of read ws >>= λ ys. Ok (y ∷ ys)) is) ∙ e) in
        ap (λ r. r >>= λ y. each_of read (ws ++ v ∷ []) >>= λ ys. Ok (y ∷ ys)) is
        ∙ ap (λ r. r >>= λ ys. Ok (x ∷ ys)) (again later.0 later.1)

value_probe : (ty : ElemType) → value_of ty probe ≡ Err BadNumber
unfolding signed_within number_within
value_probe ty = refl

odd_alone : (ty : ElemType) (ns : List ℤ) (fault : LineFault) → buffer_of ty ns ≡ Err fault →
    fault ≡ OddPair
unfolding buffer_of
odd_alone ty ns fault e = go (is_pair ty && not (length ns % 2 == 0)) e
  where
    go : (b : Bool)
        → cond b (Err OddPair) (Ok (contents ty ns (length (elements_of ty ns)))) ≡ Err fault →
        fault ≡ OddPair
    go true h = cc
    go false h = absurd cc

pub settles_values : (ty : ElemType) → Settles (values_of ty)
unfolding values_of
settles_values ty ws = go (each_of (value_of ty) ws) refl
  where
    go : (r : Result (List ℤ) LineFault) → each_of (value_of ty) ws ≡ r →
        Fails (values_of ty) ws ⊎ Differs (values_of ty) ws
    go (Err fault) is = inl (record {
      fault = fault;
      same = λ more. ap (λ r. r >>= buffer_of ty) (each_fails (value_of ty) ws fault is more);
    })
    go (Ok ns) is = inr (λ fault one two.
        let odd = odd_alone ty ns fault (sym (ap (λ r. r >>= buffer_of ty) is) ∙ one) in
        let bad : Err fault ≡ Err BadNumber =
        sym two ∙ ap (λ r. r >>= buffer_of ty)
        (each_more (value_of ty) probe BadNumber (value_probe ty) ws ns is) in
        absurd cc)

---- labels

label_by : (o : Option ℕ) (fault : LineFault) → some_or BadLabel (option_map Of o) ≡ Err fault →
    fault ≡ BadLabel
label_by None fault e = cc
label_by (Some d) fault e = absurd cc

label_probe : (datasets : List Word) (fault : LineFault) → label_of datasets probe ≡ Err fault →
    fault ≡ BadLabel
unfolding label_of
label_probe datasets fault e = label_by (place_of probe datasets) fault e

module _ (datasets : List Word) (ty : ElemType) where
  abbrev with_label : Result Label LineFault → List Word → Result (Label × Contents) LineFault
  with_label r ws = r >>= λ label. values_of ty ws >>= λ elements. Ok (label, elements)

  abbrev with_elements : Label → Contents → Result (Label × Contents) LineFault
  with_elements label elements = Ok (label, elements)

  labelled_word : (w : Word) (ws : List Word) (r : Result Label LineFault) →
      (length w == 0) ≡ false → label_of datasets w ≡ r →
      labelled datasets ty (w ∷ ws) ≡ with_label r ws
  unfolding labelled
  labelled_word w ws r some is =
      ap (λ b. word_if b w ws >>= λ v. with_label (label_of datasets v.0) v.1)
      some
      ∙ ap (λ q. with_label q ws) is

  unmade : (label : Label) (r : Result Contents LineFault) (fault : LineFault) →
      (r >>= λ elements. with_elements label elements) ≡ Err fault → r ≡ Err fault
  unmade label (Ok x) fault e = absurd cc
  unmade label (Err f) fault e =
      let same : f ≡ fault = cc in ap (λ (g : LineFault). Err g) same

  no_label : labelled datasets ty (probe ∷ []) ≡ Err BadShape → ⊥
  unfolding values_of each_of
  no_label e = go (label_of datasets probe) refl
    where
      go : (r : Result Label LineFault) → label_of datasets probe ≡ r → ⊥
      go (Err fault) is =
          let other = label_probe datasets fault is in
          let same : Err fault ≡ Err BadShape =
          sym (labelled_word probe [] (Err fault) refl is) ∙ e in
          absurd cc
      go (Ok label) is =
          let odd = odd_alone ty [] BadShape
          (unmade label (buffer_of ty []) BadShape
          (sym (labelled_word probe [] (Ok label) refl is) ∙ e)) in
          absurd cc

  pub settles_labelled : Settles (labelled datasets ty)
  unfolding labelled
  settles_labelled [] = inr (λ fault one two.
      let same : BadShape ≡ fault = cc in
      no_label (two ∙ ap (λ (f : LineFault). Err f) (sym same)))
  settles_labelled (w ∷ ws) = elim (cases_Bool (length w == 0)) [
    | inl t ↦ inl (record {
      fault = BadShape;
      same = λ more. ap (λ b. word_if b w (ws ++ more)
          >>= λ v. with_label (label_of datasets v.0) v.1) t;
    })
    | inr f ↦ go f (label_of datasets w) refl
  ]
    where
      go : (length w == 0) ≡ false → (r : Result Label LineFault) → label_of datasets w ≡ r →
          Fails (labelled datasets ty) (w ∷ ws) ⊎ Differs (labelled datasets ty) (w ∷ ws)
      go f (Err fault) is = inl (record {
        fault = fault;
        same = λ more. labelled_word w (ws ++ more) (Err fault) f is;
      })
      go f (Ok label) is = elim (settles_map {B = Label × Contents} (values_of ty)
          (λ elements. (label, elements)) (settles_values ty) ws) [
            | inl fail ↦ inl (record {
              fault = fail.fault;
              same = λ more. labelled_word w (ws ++ more) (Ok label) f is ∙ fail.same more;
            })
            | inr differs ↦ inr (λ fault one two.
                differs fault (sym (labelled_word w ws (Ok label) f is) ∙ one)
                (sym (labelled_word w (ws ++ probe ∷ []) (Ok label) f is) ∙ two))
          ]

---- calls

pub settles_given : (datasets : List Word) (ty : Option ElemType) → Settles (given_of datasets ty)
unfolding given_of
settles_given datasets None [] = inr (λ fault one two. absurd cc)
settles_given datasets (Some ty) [] = inr (λ fault one two. absurd cc)
settles_given datasets None (w ∷ ws) =
    inl (record { fault = BadShape; same = λ more. refl })
settles_given datasets (Some ty) (w ∷ ws) = elim (cases_Bool (bytes_eq w (codes "as"))) [
  | inr f ↦ inl (record {
    fault = BadShape;
    same = λ more. ap (λ b. cond b (labelled datasets ty (ws ++ more)) (Err BadShape)) f;
  })
  | inl t ↦ elim (settles_labelled datasets ty ws) [
    | inl fail ↦ inl (record {
      fault = fail.fault;
      same = λ more. ap (λ b. cond b (labelled datasets ty (ws ++ more)) (Err BadShape)) t
          ∙ fail.same more;
    })
    | inr differs ↦ inr (λ fault one two.
        differs fault
        (sym (ap (λ b. cond b (labelled datasets ty ws) (Err BadShape)) t) ∙ one)
        (sym (ap (λ b. cond b (labelled datasets ty (ws ++ probe ∷ [])) (Err BadShape)) t) ∙ two))
  ]
]

abbrev posting : ℕ → Signature × Own → Label × Contents → Act
posting comm statement given = Post (record {
  comm = comm;
  sig = statement.0;
  own = statement.1;
  label = given.0;
  elements = given.1;
})

pub settles_post : (datasets : List Word) → Settles (post_of datasets)
unfolding post_of
settles_post datasets =
    settles_then (number_at 4294967295)
    (λ comm ws. statement_at ws >>= λ statement.
    given_of datasets (elem_type statement.0.0) statement.1
    >>= λ given. Ok (posting comm statement.0 given))
    (steady_number 4294967295)
    (λ comm.
    settles_then statement_at
    (λ statement ws. given_of datasets (elem_type statement.0) ws
    >>= λ given. Ok (posting comm statement given))
    steady_statement
    (λ statement.
    settles_map (given_of datasets (elem_type statement.0)) (posting comm statement)
    (settles_given datasets (elem_type statement.0))))

pub settles_take : Settles (λ ws. last_number 18446744073709551615 ws >>= λ n. Ok (Take n))
settles_take =
    settles_map (last_number 18446744073709551615) (λ (n : ℕ). Take n)
    (settles_last 18446744073709551615)

pub settles_info : Settles (λ ws. last_number 4294967295 ws >>= λ n. Ok (Info n))
settles_info =
    settles_map (last_number 4294967295) (λ (n : ℕ). Info n) (settles_last 4294967295)

-- what stands behind a verb: a process, and an act
abbrev with_act : (List Word → Result Act LineFault) → List Word → Result Call LineFault
with_act act ws = number_at 4294967295 ws >>= λ process. act process.1
    >>= λ a. Ok (record { process = process.0; act = a })

settles_with : (act : List Word → Result Act LineFault) → Settles act → Settles (with_act act)
settles_with act settles =
    settles_then (number_at 4294967295)
    (λ process ws. act ws >>= λ a. Ok (record { process = process; act = a }))
    (steady_number 4294967295)
    (λ process. settles_map act (λ a. record { process = process; act = a }) settles)

module _ (datasets : List Word) (w : Word) (some : (length w == 0) ≡ false) where
  call_post : bytes_eq w (codes "post") ≡ true → (ws : List Word) →
      call_of datasets (w ∷ ws) ≡ with_act (post_of datasets) ws
  unfolding call_of verb_of act_of
  call_post post ws = rw (some, post) refl

  call_take : bytes_eq w (codes "post") ≡ false → bytes_eq w (codes "take") ≡ true →
      (ws : List Word) → call_of datasets (w ∷ ws)
      ≡ with_act (λ vs. last_number 18446744073709551615 vs >>= λ n. Ok (Take n)) ws
  unfolding call_of verb_of act_of
  call_take post take ws = rw (some, post, take) refl

  call_info : bytes_eq w (codes "post") ≡ false → bytes_eq w (codes "take") ≡ false →
      bytes_eq w (codes "info") ≡ true → (ws : List Word) → call_of datasets (w ∷ ws)
      ≡ with_act (λ vs. last_number 4294967295 vs >>= λ n. Ok (Info n)) ws
  unfolding call_of verb_of act_of
  call_info post take info ws = rw (some, post, take, info) refl

  call_none : bytes_eq w (codes "post") ≡ false → bytes_eq w (codes "take") ≡ false →
      bytes_eq w (codes "info") ≡ false → (ws : List Word) →
      call_of datasets (w ∷ ws) ≡ Err BadVerb
  unfolding call_of verb_of
  call_none post take info ws = rw (some, post, take, info) refl

empty_word : (datasets : List Word) (w : Word) → (length w == 0) ≡ true → (ws : List Word) →
    call_of datasets (w ∷ ws) ≡ Err BadShape
unfolding call_of
empty_word datasets w none ws = rw none refl

carry : (datasets : List Word) (w : Word) (ws : List Word)
    (read : List Word → Result Call LineFault)
    → ((vs : List Word) → call_of datasets (w ∷ vs) ≡ read vs) → Settles read →
    Fails (call_of datasets) (w ∷ ws) ⊎ Differs (call_of datasets) (w ∷ ws)
carry datasets w ws read is settles = elim (settles ws) [
  | inl fail ↦ inl (record {
    fault = fail.fault;
    same = λ more. is (ws ++ more) ∙ fail.same more;
  })
  | inr differs ↦ inr (λ fault one two.
      differs fault (sym (is ws) ∙ one) (sym (is (ws ++ probe ∷ [])) ∙ two))
]

no_words : (datasets : List Word) → call_of datasets [] ≡ Err BadShape
unfolding call_of
no_words datasets = refl

probe_alone : (datasets : List Word) → call_of datasets (probe ∷ []) ≡ Err BadVerb
unfolding call_of verb_of
probe_alone datasets = refl

not_told : (datasets : List Word) → Differs (call_of datasets) []
not_told datasets fault one two =
    let lacks : Err BadShape ≡ Err fault = sym (no_words datasets) ∙ one in
    let probed : Err BadVerb ≡ Err fault = sym (probe_alone datasets) ∙ two in
    absurd cc

pub settles_call : (datasets : List Word) → Settles (call_of datasets)
settles_call datasets [] = inr (not_told datasets)
settles_call datasets (w ∷ ws) = elim (cases_Bool (length w == 0)) [
  | inl none ↦ inl (record {
    fault = BadShape;
    same = λ more. empty_word datasets w none (ws ++ more);
  })
  | inr some ↦ elim (cases_Bool (bytes_eq w (codes "post"))) [
    | inl post ↦ carry datasets w ws (with_act (post_of datasets))
        (call_post datasets w some post)
        (settles_with (post_of datasets) (settles_post datasets))
    | inr no_post ↦ elim (cases_Bool (bytes_eq w (codes "take"))) [
      | inl take ↦ carry datasets w ws
          (with_act (λ vs. last_number 18446744073709551615 vs >>= λ n. Ok (Take n)))
          (call_take datasets w some no_post take)
          (settles_with (λ vs. last_number 18446744073709551615 vs >>= λ n. Ok (Take n))
          settles_take)
      | inr no_take ↦ elim (cases_Bool (bytes_eq w (codes "info"))) [
        | inl info ↦ carry datasets w ws
            (with_act (λ vs. last_number 4294967295 vs >>= λ n. Ok (Info n)))
            (call_info datasets w some no_post no_take info)
            (settles_with (λ vs. last_number 4294967295 vs >>= λ n. Ok (Info n)) settles_info)
        | inr no_info ↦ inl (record {
          fault = BadVerb;
          same = λ more. call_none datasets w some no_post no_take no_info (ws ++ more);
        })
      ]
    ]
  ]
]

pub probe_tells : ProbeTells
probe_tells datasets ws fault stays rest = elim (settles_call datasets ws) [
  | inl fail ↦
      let one : Err fail.fault ≡ Err fault =
      sym (fail.same []) ∙ ap (call_of datasets) (append-nil ws) ∙ stays.0 in
      fail.same rest ∙ one
  | inr differs ↦ absurd (differs fault stays.0 stays.1)
]

-- no word at all has no fault yet
pub none_yet : (datasets : List Word) (fault : LineFault) → HaveFault datasets [] fault → ⊥
none_yet datasets fault have = not_told datasets fault (have []) (have (probe ∷ []))
