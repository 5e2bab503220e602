-- Words that are checked and not kept have the faults of those that are read.
use Rattle.std.proofs.Common.{◌≡◌, List, [], ◌∷◌, Result, Ok, Err, refl, sym, ◌∙◌}
use Rattle.std.specs.Prelude.{IsOk}
use Rattle.coll_text.specs.declared.fault.LineFault.{LineFault}
use Rattle.coll_text.specs.Numbers.{Word}
use Rattle.coll_text.specs.Reading.{◌>>=◌, Fails, each_of}
use Rattle.coll_text.specs.Checks.{checked}
use Rattle.coll_text.proofs.EachLemmas.{carried}

-- ---- a text that was checked

pub is_said : {A : Type 0} (said : Result A LineFault) → checked said ≡ Ok tt → IsOk said
is_said (Ok x) h = refl
is_said (Err f) h = absurd cc

-- a part, and then another
pub check_then : {A B : Type 0} (r : Result A LineFault) (more : A → Result B LineFault)
    (told : A → Result (Unit {0}) LineFault) → ((x : A) → checked (more x) ≡ told x) →
    checked (r >>= more) ≡ (r >>= told)
check_then (Ok x) more told same = same x
check_then (Err e) more told same = refl

-- ---- words checked one after the other, as a loop does

forgets : {A : Type 0} (x : A) (read : Result (List A) LineFault) →
    checked (read >>= λ xs. Ok (x ∷ xs)) ≡ checked read
forgets x (Ok xs) = refl
forgets x (Err f) = refl

pub check_goes_on : {A : Type 0} (read : Word → Result A LineFault) (w : Word)
    (before ws : List Word) (x : A) (total : Result (Unit {0}) LineFault) →
    before ≡ w ∷ ws → read w ≡ Ok x
    → checked (each_of read before) ≡ total → checked (each_of read ws) ≡ total
unfolding each_of
check_goes_on read w before ws x total split h so_far =
    let one : checked (each_of read before) ≡ checked (each_of read ws) = rw (split, h)
    (forgets x (each_of read ws)) in
    sym one ∙ so_far

stops : {A : Type 0} (read : Word → Result A LineFault) (w : Word) (before ws : List Word)
    (f : LineFault) (total : Result (Unit {0}) LineFault) → before ≡ w ∷ ws → read w ≡ Err f
    → checked (each_of read before) ≡ total → total ≡ Err f
unfolding each_of
stops read w before ws f total split h so_far =
    let one : checked (each_of read before) ≡ Err f = rw (split, h) refl in
    sym so_far ∙ one

pub check_ends : {A : Type 0} (e : LineFault) (read : Word → Result A LineFault) (w : Word)
    (before ws : List Word) (total : Result (Unit {0}) LineFault) → before ≡ w ∷ ws →
    Fails e (read w)
    → checked (each_of read before) ≡ total → Fails e total
check_ends e read w before ws total split h so_far =
    carried e (read w) total h (λ f. stops read w before ws e total split f so_far)

pub check_done : {A : Type 0} (read : Word → Result A LineFault) (before : List Word)
    (total : Result (Unit {0}) LineFault) → before ≡ []
    → checked (each_of read before) ≡ total → total ≡ Ok tt
unfolding each_of
check_done read before total none so_far =
    let one : checked (each_of read before) ≡ Ok tt = rw none refl in
    sym so_far ∙ one
