-- Calls that are read are spelled so.
use Rattle.std.proofs.Common.{◌≡◌, ℕ, ◌%◌, ◌^◌, ◌<◌, Bool, true, false, not, cond, ◌&&◌, eqb}
use Rattle.std.proofs.Common.{length, List, [], ◌∷◌, ◌++◌, Option, Some, None, unwrap_or, Ok, Err}
use Rattle.std.proofs.Common.{ℤ, codes, map, inl, inr, refl, sym, ap, subst, ◌∙◌, append_assoc}
use Rattle.std.proofs.Common.{arith}
use Rattle.std.specs.List.{list_all}
use Rattle.std.specs.Str.{bytes_eq}
use Rattle.std.specs.Fmt.{decimal, signed_decimal}
use Rattle.std.proofs.lemmas.List.Splits.{join_with_byte-slice_split}
use Rattle.std.proofs.lemmas.Slice.Eq.{bytes_eq-Decides}
use Rattle.wall_labels.specs.declared.label.Label.{Label}
use Rattle.wall_labels.specs.declared.label.Label.TheVariants as labels
use Rattle.mpi_elems.specs.declared.elem_type.ElemType.{ElemType}
use Rattle.mpi_elems.specs.declared.elem_type.ElemType.TheVariants.{Int8}
use Rattle.mpi_elems.specs.Types.{is_pair}
use Rattle.mpi_elems.specs.Numbers.{is_number_of}
use Rattle.mpi_elems.specs.Elements.{elements_of}
use Rattle.mpi_elems.specs.Contents.{Contents, contents}
use Rattle.coll_routes.specs.Signatures.{elem_type}
use Rattle.coll_text.specs.declared.fault.LineFault.TheVariants.{BadVerb, BadShape, BadField}
use Rattle.coll_text.specs.declared.fault.LineFault.TheVariants.{BadNumber, OddPair}
use Rattle.coll_text.specs.Numbers.{Word, number_within, signed_within}
use Rattle.coll_text.specs.Reading.{◌>>=◌, some_or, parts, each_of, word_at, number_at}
use Rattle.coll_text.specs.Reading.{number_up_to, ended, is_printable}
use Rattle.coll_text.specs.Fields.{statement_at}
use Rattle.coll_text.specs.Spellings.{statement_words}
use Rattle.coll_text.proofs.CollTextLemmas.{number_is_decimal, bind_ok, some_ok, ok_is, word_found}
use Rattle.coll_text.proofs.CollTextLemmas.{signed_found, statement_found, label_found}
use Rattle.run_model.specs.declared.call.Act.{Act}
use Rattle.run_model.specs.declared.call.Act.TheVariants.{Post, Take, Info}
use Rattle.run_model.specs.declared.call.Call.{Call}
use Rattle.hall_script.specs.declared.line.Verb.{Verb}
use Rattle.hall_script.specs.declared.line.Verb.TheVariants as verbs
use Rattle.hall_script.specs.Lines.{typed, value_of, buffer_of, values_of, labelled, given_of}
use Rattle.hall_script.specs.Lines.{post_of, last_number, act_of, verb_of, call_of, answer_to}
use Rattle.coll_text.specs.Words.{label_word, label_of}
use Rattle.hall_script.specs.Spellings.{given_words, act_words, call_words, GivesNothing, IsSpelled}
use Rattle.hall_script.specs.Spellings.{IsLineOf}

-- ---- numbers

typed_found : (ty : ElemType) (r : Option ℤ) (z : ℤ) → typed ty r ≡ Some z → r ≡ Some z
typed_found ty None z e = absurd cc
typed_found ty (Some y) z e = typed_by y z (is_number_of ty y) e
  where
    typed_by : (y z : ℤ) (b : Bool) → cond b (Some y) None ≡ Some z → Some y ≡ Some z
    typed_by y z true e = e
    typed_by y z false e = absurd cc

value_by : (ty : ElemType) (w : Word) (z : ℤ) (b : Bool) →
    cond b (Err BadShape) (some_or BadNumber
    (typed ty (signed_within 18446744073709551615 18446744073709551615 w))) ≡ Ok z →
    w ≡ signed_decimal z
value_by ty w z true e = absurd cc
value_by ty w z false e =
    let read = some_ok BadNumber
    (typed ty (signed_within 18446744073709551615 18446744073709551615 w)) z e in
    signed_found 18446744073709551615 18446744073709551615 w z (omega arith) (omega arith)
    (typed_found ty (signed_within 18446744073709551615 18446744073709551615 w) z read)

value_found : (ty : ElemType) (w : Word) (z : ℤ) → value_of ty w ≡ Ok z → w ≡ signed_decimal z
value_found ty w z e = value_by ty w z (eqb (length w) 0) e

each_found : (ty : ElemType) (ws : List Word) (zs : List ℤ) → each_of (value_of ty) ws ≡ Ok zs →
    ws ≡ map signed_decimal zs
unfolding each_of
each_found ty [] zs e = let k : [] ≡ zs = cc in ap (map signed_decimal) k
each_found ty (w ∷ ws) zs e =
    let a = bind_ok (value_of ty w) (λ x. each_of (value_of ty) ws >>= λ ys. Ok (x ∷ ys)) zs e in
    let b = bind_ok (each_of (value_of ty) ws) (λ ys. Ok (a.0 ∷ ys)) zs a.2 in
    let k : a.0 ∷ b.0 ≡ zs = ok_is (a.0 ∷ b.0) zs b.2 in
    (λ i. value_found ty w a.0 a.1 i ∷ each_found ty ws b.0 b.1 i) ∙ ap (map signed_decimal) k

buffer_by : (ty : ElemType) (ns : List ℤ) (c : Contents) (b : Bool) →
    cond b (Err OddPair) (Ok (contents ty ns (length (elements_of ty ns)))) ≡ Ok c → ns ≡ c.numbers
buffer_by ty ns c true e = absurd cc
buffer_by ty ns c false e =
    ap (λ (d : Contents). d.numbers) (ok_is (contents ty ns (length (elements_of ty ns))) c e)

buffer_found : (ty : ElemType) (ns : List ℤ) (c : Contents) → buffer_of ty ns ≡ Ok c →
    ns ≡ c.numbers
unfolding buffer_of
buffer_found ty ns c e = buffer_by ty ns c (is_pair ty && not (eqb (length ns % 2) 0)) e

values_found : (ty : ElemType) (ws : List Word) (c : Contents) → values_of ty ws ≡ Ok c →
    ws ≡ map signed_decimal c.numbers
unfolding values_of
values_found ty ws c e =
    let a = bind_ok (each_of (value_of ty) ws) (λ ns. buffer_of ty ns) c e in
    each_found ty ws a.0 a.1 ∙ ap (map signed_decimal) (buffer_found ty a.0 c a.2)

-- ---- what is given

-- behind `as`
abbrev as_words : List Word → Label → List ℤ → List Word
as_words datasets label ns = label_word datasets label ∷ map signed_decimal ns

labelled_found : (datasets : List Word) (ty : ElemType) (ws : List Word) (g : Label × Contents) →
    labelled datasets ty ws ≡ Ok g → ws ≡ as_words datasets g.0 g.1.numbers
unfolding labelled
labelled_found datasets ty ws g e =
    let a = bind_ok (word_at ws) (λ w. label_of datasets w.0
    >>= λ label. values_of ty w.1 >>= λ elements. Ok (label, elements)) g e in
    let b = bind_ok (label_of datasets a.0.0)
    (λ label. values_of ty a.0.1 >>= λ elements. Ok (label, elements)) g a.2 in
    let c = bind_ok (values_of ty a.0.1) (λ elements. Ok (b.0, elements)) g b.2 in
    let k : (b.0, c.0) ≡ g = ok_is (b.0, c.0) g c.2 in
    word_found ws a.0 a.1
    ∙ (λ i. label_found datasets a.0.0 b.0 b.1 i ∷ values_found ty a.0.1 c.0 c.1 i)
    ∙ ap (λ (h : Label × Contents). as_words datasets h.0 h.1.numbers) k

-- `as` and what is behind it
with_as : (datasets : List Word) (label : Label) (ns : List ℤ) (ws : List Word) →
    ws ≡ codes "as" ∷ as_words datasets label ns →
    IsSpelled (given_words datasets label ns ≡ []) (given_words datasets label ns) ws
with_as datasets labels.Public [] ws e = inr (refl, e)
with_as datasets labels.Public (n ∷ ns) ws e = inl e
with_as datasets (labels.Of d) ns ws e = inl e

given_by : (datasets : List Word) (ty : ElemType) (w : Word) (ws : List Word) (g : Label × Contents)
    (b : Bool) → bytes_eq w (codes "as") ≡ b →
    cond b (labelled datasets ty ws) (Err BadShape) ≡ Ok g
    →
    IsSpelled (given_words datasets g.0 g.1.numbers ≡ []) (given_words datasets g.0 g.1.numbers)
    (w ∷ ws)
given_by datasets ty w ws g true same e = with_as datasets g.0 g.1.numbers (w ∷ ws)
    (λ i. (bytes_eq-Decides w (codes "as")).0 same i ∷ labelled_found datasets ty ws g e i)
given_by datasets ty w ws g false same e = absurd cc

given_found :
    (datasets : List Word) (ty : Option ElemType) (ws : List Word) (g : Label × Contents) →
    given_of datasets ty ws ≡ Ok g →
    IsSpelled (given_words datasets g.0 g.1.numbers ≡ []) (given_words datasets g.0 g.1.numbers) ws
unfolding given_of
given_found datasets ty [] g e =
    let k : (labels.Public, contents (unwrap_or ty Int8) [] 0) ≡ g = ok_is
    (labels.Public, contents (unwrap_or ty Int8) [] 0) g e in
    inl (ap (λ (h : Label × Contents). given_words datasets h.0 h.1.numbers) k)
given_found datasets None (w ∷ ws) g e = absurd cc
given_found datasets (Some ty) (w ∷ ws) g e =
    given_by datasets ty w ws g (bytes_eq w (codes "as")) refl e

-- ---- calls

-- more words in front
in_front : (nothing : Type 0) (prefix words said : List Word) → IsSpelled nothing words said →
    IsSpelled nothing (prefix ++ words) (prefix ++ said)
in_front nothing prefix words said (inl e) = inl (ap (λ ws. prefix ++ ws) e)
in_front nothing prefix words said (inr e) = inr (
  e.0,
  ap (λ ws. prefix ++ ws) e.1
      ∙ sym (append_assoc prefix words (codes "as" ∷ codes "public" ∷ [])),
)

number_found : (most : ℕ) (ws : List Word) (x : ℕ × List Word) → most < 2 ^ 64 →
    number_at most ws ≡ Ok x → ws ≡ decimal x.0 ∷ x.1
number_found most ws x small e =
    let a = bind_ok (word_at ws) (λ w. number_up_to most w.0 >>= λ n. Ok (n, w.1)) x e in
    let b = bind_ok (number_up_to most a.0.0) (λ n. Ok (n, a.0.1)) x a.2 in
    let k : (b.0, a.0.1) ≡ x = ok_is (b.0, a.0.1) x b.2 in
    word_found ws a.0 a.1
    ∙ ap (λ w. w ∷ a.0.1) (number_is_decimal most b.0 a.0.0 small
    (some_ok BadField (number_within most a.0.0) b.0 b.1)).0
    ∙ ap (λ (y : ℕ × List Word). decimal y.0 ∷ y.1) k

none_left : (ws : List Word) (n m : ℕ) → ended ws n ≡ Ok m → (ws ≡ []) × (n ≡ m)
none_left [] n m e = (refl, cc)
none_left (w ∷ ws) n m e = absurd cc

last_found : (most : ℕ) (ws : List Word) (n : ℕ) → most < 2 ^ 64 → last_number most ws ≡ Ok n →
    ws ≡ decimal n ∷ []
unfolding last_number
last_found most ws n small e =
    let a = bind_ok (number_at most ws) (λ m. ended m.1 m.0) n e in
    let b = none_left a.0.1 a.0.0 n a.2 in
    number_found most ws a.0 small a.1 ∙ (λ i. decimal (b.1 i) ∷ b.0 i)

post_found : (datasets : List Word) (p : ℕ) (ws : List Word) (act : Act) →
    post_of datasets ws ≡ Ok act →
    IsSpelled (GivesNothing datasets act) (act_words datasets p act) (codes "post" ∷ decimal p ∷ ws)
unfolding post_of
post_found datasets p ws act e =
    let a = bind_ok (number_at 4294967295 ws) (λ comm. statement_at comm.1
    >>= λ s. given_of datasets (elem_type s.0.0) s.1
    >>= λ g. Ok (Post (record {
      comm = comm.0;
      sig = s.0.0;
      own = s.0.1;
      label = g.0;
      elements = g.1;
    }))) act e in
    let b = bind_ok (statement_at a.0.1) (λ s. given_of datasets (elem_type s.0.0) s.1
    >>= λ g. Ok (Post (record {
      comm = a.0.0;
      sig = s.0.0;
      own = s.0.1;
      label = g.0;
      elements = g.1;
    }))) act a.2 in
    let s = b.0 in
    let c = bind_ok (given_of datasets (elem_type s.0.0) s.1) (λ g.
    Ok
    (Post (record { comm = a.0.0; sig = s.0.0; own = s.0.1; label = g.0; elements = g.1 })))
    act b.2 in
    let made : Post
    (record { comm = a.0.0; sig = s.0.0; own = s.0.1; label = c.0.0; elements = c.0.1 }) ≡ act =
    ok_is
    (Post (record { comm = a.0.0; sig = s.0.0; own = s.0.1; label = c.0.0; elements = c.0.1 }))
    act c.2 in
    let prefix = codes "post" ∷ decimal p ∷ decimal a.0.0 ∷ statement_words s.0.0 s.0.1 in
    let split : codes "post" ∷ decimal p ∷ ws ≡ prefix ++ s.1 =
    ap (λ vs. codes "post" ∷ decimal p ∷ vs) (number_found 4294967295 ws a.0 (omega arith) a.1)
    ∙ ap (λ vs. codes "post" ∷ decimal p ∷ decimal a.0.0 ∷ vs)
    (statement_found a.0.1 s.0.0 s.0.1 s.1 b.1).words in
    let said = in_front (given_words datasets c.0.0 c.0.1.numbers ≡ []) prefix
    (given_words datasets c.0.0 c.0.1.numbers) s.1
    (given_found datasets (elem_type s.0.0) s.1 c.0 c.1) in
    subst (λ (x : Act). IsSpelled (GivesNothing datasets x) (act_words datasets p x)
    (codes "post" ∷ decimal p ∷ ws)) made (subst (λ vs.
    IsSpelled (given_words datasets c.0.0 c.0.1.numbers ≡ [])
    (prefix ++ given_words datasets c.0.0 c.0.1.numbers) vs) (sym split) said)

take_found : (datasets : List Word) (p : ℕ) (ws : List Word) (act : Act) →
    (last_number 18446744073709551615 ws >>= λ request. Ok (Take request)) ≡ Ok act →
    IsSpelled (GivesNothing datasets act) (act_words datasets p act) (codes "take" ∷ decimal p ∷ ws)
take_found datasets p ws act e =
    let a = bind_ok (last_number 18446744073709551615 ws) (λ request. Ok (Take request)) act e in
    let made : Take a.0 ≡ act = ok_is (Take a.0) act a.2 in
    subst (λ (x : Act). IsSpelled (GivesNothing datasets x) (act_words datasets p x)
    (codes "take" ∷ decimal p ∷ ws)) made (inl (ap (λ vs. codes "take" ∷ decimal p ∷ vs)
    (last_found 18446744073709551615 ws a.0 (omega arith) a.1)))

info_found : (datasets : List Word) (p : ℕ) (ws : List Word) (act : Act) →
    (last_number 4294967295 ws >>= λ comm. Ok (Info comm)) ≡ Ok act →
    IsSpelled (GivesNothing datasets act) (act_words datasets p act) (codes "info" ∷ decimal p ∷ ws)
info_found datasets p ws act e =
    let a = bind_ok (last_number 4294967295 ws) (λ comm. Ok (Info comm)) act e in
    let made : Info a.0 ≡ act = ok_is (Info a.0) act a.2 in
    subst (λ (x : Act). IsSpelled (GivesNothing datasets x) (act_words datasets p x)
    (codes "info" ∷ decimal p ∷ ws)) made (inl (ap (λ vs. codes "info" ∷ decimal p ∷ vs)
    (last_found 4294967295 ws a.0 (omega arith) a.1)))

abbrev verb_word : Verb → Word
verb_word verbs.Post = codes "post"
verb_word verbs.Take = codes "take"
verb_word verbs.Info = codes "info"

act_found : (datasets : List Word) (v : Verb) (p : ℕ) (ws : List Word) (act : Act) →
    act_of datasets v ws ≡ Ok act →
    IsSpelled (GivesNothing datasets act) (act_words datasets p act) (verb_word v ∷ decimal p ∷ ws)
unfolding act_of
act_found datasets verbs.Post p ws act e = post_found datasets p ws act e
act_found datasets verbs.Take p ws act e = take_found datasets p ws act e
act_found datasets verbs.Info p ws act e = info_found datasets p ws act e

verb_by : (w : Word) (v : Verb) (b c d : Bool) → bytes_eq w (codes "post") ≡ b →
    bytes_eq w (codes "take") ≡ c → bytes_eq w (codes "info") ≡ d
    → cond b (Some verbs.Post) (cond c (Some verbs.Take) (cond d (Some verbs.Info) None)) ≡ Some v →
    w ≡ verb_word v
verb_by w v true c d x y z e =
    let k : verbs.Post ≡ v = cc in (bytes_eq-Decides w (codes "post")).0 x ∙ ap verb_word k
verb_by w v false true d x y z e =
    let k : verbs.Take ≡ v = cc in (bytes_eq-Decides w (codes "take")).0 y ∙ ap verb_word k
verb_by w v false false true x y z e =
    let k : verbs.Info ≡ v = cc in (bytes_eq-Decides w (codes "info")).0 z ∙ ap verb_word k
verb_by w v false false false x y z e = absurd cc

script_verb_found : (w : Word) (v : Verb) → verb_of w ≡ Some v → w ≡ verb_word v
unfolding verb_of
script_verb_found w v e = verb_by w v (bytes_eq w (codes "post")) (bytes_eq w (codes "take"))
    (bytes_eq w (codes "info")) refl refl refl e

pub call_found : (datasets ws : List Word) (call : Call) → call_of datasets ws ≡ Ok call →
    IsSpelled (GivesNothing datasets call.act) (call_words datasets call) ws
unfolding call_of
call_found datasets ws call e =
    let a = bind_ok (word_at ws) (λ w. some_or BadVerb (verb_of w.0)
    >>= λ v. number_at 4294967295 w.1
    >>= λ p. act_of datasets v p.1
    >>= λ act. Ok (record { process = p.0; act = act })) call e in
    let b = bind_ok (some_or BadVerb (verb_of a.0.0)) (λ v. number_at 4294967295 a.0.1
    >>= λ p. act_of datasets v p.1 >>= λ act. Ok (record { process = p.0; act = act })) call
    a.2 in
    let c = bind_ok (number_at 4294967295 a.0.1)
    (λ p. act_of datasets b.0 p.1 >>= λ act. Ok (record { process = p.0; act = act })) call b.2
    in
    let d = bind_ok (act_of datasets b.0 c.0.1) (λ act. Ok (record { process = c.0.0; act = act }))
    call c.2 in
    let made : record { process = c.0.0; act = d.0 } ≡ call = ok_is
    (record { process = c.0.0; act = d.0 }) call d.2 in
    let split : ws ≡ verb_word b.0 ∷ decimal c.0.0 ∷ c.0.1 =
    word_found ws a.0 a.1
    ∙ (λ i. script_verb_found a.0.0 b.0 (some_ok BadVerb (verb_of a.0.0) b.0 b.1) i
    ∷ number_found 4294967295 a.0.1 c.0 (omega arith) c.1 i) in
    subst (λ (x : Call). IsSpelled (GivesNothing datasets x.act) (call_words datasets x) ws) made
    (subst (λ vs. IsSpelled (GivesNothing datasets d.0) (act_words datasets c.0.0 d.0) vs)
    (sym split) (act_found datasets b.0 c.0.0 c.0.1 d.0 d.1))

line_by : (datasets : List Word) (line : List ℕ) (call : Call) (b : Bool) →
    cond b (call_of datasets (parts 32 line)) (Err BadShape) ≡ Ok call → IsLineOf datasets call line
line_by datasets line call true e = record {
  words = parts 32 line;
  said = call_found datasets (parts 32 line) call e;
  text = sym (join_with_byte-slice_split 32 line);
}
line_by datasets line call false e = absurd cc

pub line_found : (datasets : List Word) (line : List ℕ) (call : Call) →
    answer_to datasets line ≡ Ok call → IsLineOf datasets call line
unfolding answer_to
line_found datasets line call e = line_by datasets line call (list_all is_printable line) e
