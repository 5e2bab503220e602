-- Reading words one after the other, as a loop does.
use Rattle.std.proofs.Common.{◌≡◌, Bool, false, List, [], ◌∷◌, ◌++◌, Result, Ok, Err, refl, sym}
use Rattle.std.proofs.Common.{ap, ◌∙◌}
use Rattle.std.proofs.Common.{append_assoc}
use Rattle.std.proofs.lemmas.List.{append-nil}
use Rattle.coll_text.specs.declared.fault.LineFault.{LineFault}
use Rattle.coll_text.specs.declared.fault.LineFault.TheVariants.{BadVerb, BadShape, BadField}
use Rattle.coll_text.specs.declared.fault.LineFault.TheVariants.{BadKind, BadType, UnknownOp}
use Rattle.coll_text.specs.declared.fault.LineFault.TheVariants.{BadLabel, BadNumber, OddPair}
use Rattle.coll_text.specs.declared.fault.LineFault.TheVariants.{NoMemory}
use Rattle.coll_text.specs.Numbers.{Word}
use Rattle.coll_text.specs.Reading.{◌>>=◌, Fails, each_of}
use Rattle.coll_text.specs.Checks.{checked}

-- a fault of a part is the fault of the whole
pub carried :
    {A B : Type 0} (e : LineFault) (part : Result A LineFault) (whole : Result B LineFault) →
    Fails e part → (part ≡ Err e → whole ≡ Err e) → Fails e whole
carried NoMemory part whole h f = tt
carried BadVerb part whole h f = f h
carried BadShape part whole h f = f h
carried BadField part whole h f = f h
carried BadKind part whole h f = f h
carried BadType part whole h f = f h
carried UnknownOp part whole h f = f h
carried BadLabel part whole h f = f h
carried BadNumber part whole h f = f h
carried OddPair part whole h f = f h

pub fails_then : {A B : Type 0} (e : LineFault) (r : Result A LineFault)
    (more : A → Result B LineFault) → Fails e r → Fails e (r >>= more)
fails_then e r more h = carried e r (r >>= more) h (λ k. ap (λ m. m >>= more) k)

is_fault : {A B : Type 0} (e : LineFault) (r : Result A LineFault) (made : A → B) →
    (r >>= λ x. Ok (made x)) ≡ Err e → r ≡ Err e
is_fault e (Ok x) made h = absurd cc
is_fault e (Err f) made h = ap Err (let k : f ≡ e = cc in k)

-- a fault of what is made of a part is the fault of the part
pub fails_before : {A B : Type 0} (e : LineFault) (r : Result A LineFault) (made : A → B) →
    Fails e (r >>= λ x. Ok (made x)) → Fails e r
fails_before e r made h = carried e (r >>= λ x. Ok (made x)) r h (is_fault e r made)

-- what was read before, and what is still read
abbrev pub with_prefix : {A : Type 0} → List A → Result (List A) LineFault →
    Result (List A) LineFault
with_prefix prefix read = read >>= λ xs. Ok (prefix ++ xs)

regroup : {A : Type 0} (prefix : List A) (x : A) (read : Result (List A) LineFault) →
    with_prefix prefix (read >>= λ xs. Ok (x ∷ xs)) ≡ with_prefix (prefix ++ x ∷ []) read
regroup prefix x (Ok xs) = ap Ok (sym (append_assoc prefix (x ∷ []) xs))
regroup prefix x (Err f) = refl

pub goes_on : {A : Type 0} (read : Word → Result A LineFault) (prefix : List A) (w : Word)
    (before ws : List Word) (x : A) (total : Result (List A) LineFault) → before ≡ w ∷ ws →
    read w ≡ Ok x
    → with_prefix prefix (each_of read before) ≡ total →
    with_prefix (prefix ++ x ∷ []) (each_of read ws) ≡ total
unfolding each_of
goes_on read prefix w before ws x total split h so_far =
    let one : with_prefix prefix (each_of read before) ≡ with_prefix (prefix ++ x ∷ [])
    (each_of read ws) = rw (split, h) (regroup prefix x (each_of read ws)) in
    sym one ∙ so_far

stops : {A : Type 0} (read : Word → Result A LineFault) (prefix : List A) (w : Word)
    (before ws : List Word) (f : LineFault) (total : Result (List A) LineFault) →
    before ≡ w ∷ ws → read w ≡ Err f
    → with_prefix prefix (each_of read before) ≡ total → total ≡ Err f
unfolding each_of
stops read prefix w before ws f total split h so_far =
    let one : with_prefix prefix (each_of read before) ≡ Err f = rw (split, h) refl in
    sym so_far ∙ one

pub ends : {A : Type 0} (e : LineFault) (read : Word → Result A LineFault) (prefix : List A)
    (w : Word) (before ws : List Word) (total : Result (List A) LineFault) →
    before ≡ w ∷ ws → Fails e (read w)
    → with_prefix prefix (each_of read before) ≡ total → Fails e total
ends e read prefix w before ws total split h so_far =
    carried e (read w) total h (λ f. stops read prefix w before ws e total split f so_far)

pub is_done : {A : Type 0} (read : Word → Result A LineFault) (prefix : List A) (before : List Word)
    (total : Result (List A) LineFault) → before ≡ []
    → with_prefix prefix (each_of read before) ≡ total → total ≡ Ok prefix
unfolding each_of
is_done read prefix before total none so_far =
    let one : with_prefix prefix (each_of read before) ≡ Ok prefix = rw none
    (ap Ok (append-nil prefix)) in
    sym so_far ∙ one

-- ---- the same where memory may have run out

-- What was read so far is in the list, unless memory ran out.
pub record HasRead {A : Type 0} (read : Word → Result A LineFault) (ran_out : Bool)
    (list : List A) (ws : List Word) (total : Result (List A) LineFault) : Type 0 where
  pub prefix : List A
  pub kept : ran_out ≡ false → list ≡ prefix
  pub so_far : with_prefix prefix (each_of read ws) ≡ total

prefix_none : {A : Type 0} (r : Result (List A) LineFault) → with_prefix [] r ≡ r
prefix_none (Ok xs) = refl
prefix_none (Err f) = refl

pub begins : {A : Type 0} (read : Word → Result A LineFault) (ran_out : Bool) (list : List A)
    (ws : List Word) → list ≡ [] → HasRead read ran_out list ws (each_of read ws)
begins read ran_out list ws none =
    record { prefix = []; kept = λ _. none; so_far = prefix_none (each_of read ws) }

module _ {A : Type 0} (read : Word → Result A LineFault) (was : Bool) (list : List A) (w : Word)
    (before ws : List Word) (total : Result (List A) LineFault)
    (so : HasRead read was list before total) where
  pub reads_on : (is : Bool) (new : List A) (x : A) → before ≡ w ∷ ws → read w ≡ Ok x →
      (is ≡ false → new ≡ list ++ x ∷ []) → (is ≡ false → was ≡ false) →
      HasRead read is new ws total
  reads_on is new x split h adds stays = record {
    prefix = so.prefix ++ x ∷ [];
    kept = λ off. adds off ∙ ap (λ xs. xs ++ x ∷ []) (so.kept (stays off));
    so_far = goes_on read so.prefix w before ws x total split h so.so_far;
  }

  pub stops_at : (e : LineFault) → before ≡ w ∷ ws → Fails e (read w) → Fails e total
  stops_at e split h = ends e read so.prefix w before ws total split h so.so_far

module _ {A : Type 0} (read : Word → Result A LineFault) (ran_out : Bool) (list : List A)
    (before : List Word) (total : Result (List A) LineFault) (none : before ≡ [])
    (so : HasRead read ran_out list before total) where
  pub all_kept : ran_out ≡ false → total ≡ Ok list
  all_kept off = is_done read so.prefix before total none so.so_far ∙ ap Ok (sym (so.kept off))

  pub all_read : checked total ≡ Ok tt
  all_read = ap checked (is_done read so.prefix before total none so.so_far)
