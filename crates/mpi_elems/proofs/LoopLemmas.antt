-- A loop that writes the combined cell of two lists at each place of the first, and lists merged.
use Rattle.std.proofs.Common.{◌≡◌, ℕ, ◌+◌, ◌<◌, ◌≤◌, List, [], ◌∷◌, ◌++◌, length, map, ℤ, get_or}
use Rattle.std.proofs.Common.{take, drop, set, ◌∙◌, arith, refl, ap, min, Bool, true, false}
use Rattle.std.proofs.Common.{if◌then◌else◌, zero, suc, slice_range, sym, ◌-◌, length-drop, subst}
use Rattle.std.proofs.lemmas.List.{append-nil, take-append-drop, take-append-le, map-append}
use Rattle.std.proofs.lemmas.List.{take-map, drop-map, take_more, take_more_set, drop_more}
use Rattle.std.proofs.lemmas.List.{drop-set-lt, take_all}
use Rattle.wall_labels.specs.declared.op.Op.{Op}
use Rattle.mpi_elems.specs.declared.elem_type.ElemType.{ElemType}
use Rattle.mpi_elems.specs.declared.elem_type.ElemType.TheVariants.{TwoInt}
use Rattle.mpi_elems.specs.Operations.{on_numbers, keeps_first}
use Rattle.mpi_elems.specs.Elements.{pair, combine}
use Rattle.mpi_elems.specs.Lists.{merged, zip_with}
use Rattle.mpi_elems.specs.Loops.{Combines, Merges, better_pair, singles, pairs}

pub Combines_more : {A : Type 0} → (R : A → A → A → Type 0) (xs ys zs : List A) (x y z : A) →
    Combines R xs ys zs → R x y z → Combines R (xs ++ x ∷ []) (ys ++ y ∷ []) (zs ++ z ∷ [])
unfolding Combines
Combines_more R [] [] [] x y z h r = (r, tt)
Combines_more R (a ∷ xs) (b ∷ ys) (c ∷ zs) x y z h r = (h.0, Combines_more R xs ys zs x y z h.1 r)
Combines_more R [] [] (c ∷ zs) x y z h r = absurd h
Combines_more R [] (b ∷ ys) zs x y z h r = absurd h
Combines_more R (a ∷ xs) [] zs x y z h r = absurd h
Combines_more R (a ∷ xs) (b ∷ ys) [] x y z h r = absurd h

-- the elements from here on are as they were, and so is the one here
pub same_here : {A : Type 0} → (old now : List A) (i : ℕ) (d : A) → i < length old →
    i < length now → drop i now ≡ drop i old →
    (get_or now i d ≡ get_or old i d) × (drop (i + 1) now ≡ drop (i + 1) old)
same_here old now i d h k e =
    let f = drop_more old i d h in
    let g = drop_more now i d k in
    ((cc), (cc))

pub combines_step : {A : Type 0} →
    (R : A → A → A → Type 0) (old ys now : List A) (i : ℕ) (x y z : A) → i < length old →
    i < length ys → i < length now → Combines R (take i old) (take i ys) (take i now) →
    drop i now ≡ drop i old → x ≡ get_or now i x → y ≡ get_or ys i y → R x y z →
    Combines R (take (i + 1) old) (take (i + 1) ys) (take (i + 1) (set now i z))
combines_step {A = A} R old ys now i x y z h k l done rest first second r =
    let same = (same_here old now i x h l rest).0 in
    let P : A → Type 0 = λ w. R w y z in
    let here : R (get_or old i x) y z = subst P (first ∙ same) r in
    rw (take_more old i x h, take_more ys i y k, take_more_set now i z l, ← second)
    (Combines_more R _ _ _ _ _ _ done here)

pub rest_step : {A : Type 0} → (old now : List A) (i : ℕ) (x z : A) → i < length old →
    i < length now → drop i now ≡ drop i old → drop (i + 1) (set now i z) ≡ drop (i + 1) old
rest_step old now i x z h l rest =
    let after : i < i + 1 = omega arith in
    drop-set-lt (i + 1) now i z after ∙ (same_here old now i x h l rest).1

-- at the end
pub combines_head : {A : Type 0} → (R : A → A → A → Type 0) (old ys now : List A) (i : ℕ) →
    i ≡ length ys → Combines R (take i old) (take i ys) (take i now) →
    Combines R (take (length ys) old) ys (take (length ys) now)
combines_head R old ys now i e done =
    let all = rw e at done in
    let whole : length ys ≤ length ys = omega arith in
    let same = take_all (length ys) ys whole in
    rw same at all

-- the places that both have combined, then the rest of each
pub merges_whole : {A : Type 0} → (R : A → A → A → Type 0) (xs ys zs : List A) (n : ℕ) →
    n ≡ min (length xs) (length ys) → Combines R (take n xs) (take n ys) zs →
    Merges R xs ys ((zs ++ drop n xs) ++ drop n ys)
unfolding Combines Merges
merges_whole R [] ys [] zero e h = refl
merges_whole R [] ys (z ∷ zs) zero e h = absurd h
merges_whole R [] ys zs (suc n) e h = absurd (omega arith)
merges_whole R (x ∷ xs) [] [] zero e h = append-nil (x ∷ xs)
merges_whole R (x ∷ xs) [] (z ∷ zs) zero e h = absurd h
merges_whole R (x ∷ xs) [] zs (suc n) e h = absurd (omega arith)
merges_whole R (x ∷ xs) (y ∷ ys) zs zero e h = absurd (omega arith)
merges_whole R (x ∷ xs) (y ∷ ys) [] (suc n) e h = absurd h
merges_whole R (x ∷ xs) (y ∷ ys) (z ∷ zs) (suc n) e h = let rest : n ≡ min (length xs) (length ys) =
    omega arith in (h.0, merges_whole R xs ys zs n rest h.1)

-- the elements of cells that merge are merged
pub singles_merged : {A : Type 0} (op : Op) (ty : ElemType) (number : A → ℤ) (xs ys zs : List A) →
    Merges (λ x y z. number z ≡ on_numbers op ty (number x) (number y)) xs ys zs →
    singles number zs ≡ merged (combine op ty) (singles number xs) (singles number ys)
unfolding Merges merged combine
singles_merged op ty number [] ys zs h = ap (singles number) h
singles_merged op ty number (x ∷ xs) [] zs h = ap (singles number) h
singles_merged op ty number (x ∷ xs) (y ∷ ys) (z ∷ zs) h =
    let e = singles_merged op ty number xs ys zs h.1 in let d = h.0 in cc
singles_merged op ty number (x ∷ xs) (y ∷ ys) [] h = absurd h

chosen : (c : Bool) (x y : ℤ × ℤ) → (let p : ℤ × ℤ = if c then x else y in pair p.0 p.1)
    ≡ (if c then pair x.0 x.1 else pair y.0 y.1)
chosen true x y = refl
chosen false x y = refl

pair_combined : (op : Op) (x y : ℤ × ℤ) →
    pair (better_pair op x y).0 (better_pair op x y).1
    ≡ combine op TwoInt (pair x.0 x.1) (pair y.0 y.1)
unfolding combine
pair_combined op x y = chosen (keeps_first op x.0 x.1 y.0 y.1) x y

pub pairs_merged : (op : Op) (xs ys zs : List (ℤ × ℤ)) →
    Merges (λ x y z. z ≡ better_pair op x y) xs ys zs →
    pairs zs ≡ merged (combine op TwoInt) (pairs xs) (pairs ys)
unfolding Merges merged
pairs_merged op [] ys zs h = ap pairs h
pairs_merged op (x ∷ xs) [] zs h = ap pairs h
pairs_merged op (x ∷ xs) (y ∷ ys) (z ∷ zs) h =
    let e = pairs_merged op xs ys zs h.1 in let d = pair_combined op x y in let k = h.0 in cc
pairs_merged op (x ∷ xs) (y ∷ ys) [] h = absurd h

-- lists of one length have no rest
pub merged-same_length : {E : Type 0} (f : E → E → E) (xs ys : List E) → length xs ≡ length ys →
    merged f xs ys ≡ zip_with f xs ys
unfolding merged zip_with
merged-same_length f [] [] e = refl
merged-same_length f [] (y ∷ ys) e = absurd (omega arith)
merged-same_length f (x ∷ xs) [] e = absurd (omega arith)
merged-same_length {E = E} f (x ∷ xs) (y ∷ ys) e =
    let rest : length xs ≡ length ys = omega arith in
    ap (λ (zs : List E). f x y ∷ zs) (merged-same_length f xs ys rest)

-- f of a part, and of a list with a part appended
pub map-slice_range : {A B : Type 0} (f : A → B) (xs : List A) (i j : ℕ) →
    map f (slice_range xs i j) ≡ slice_range (map f xs) i j
map-slice_range f xs i j = simp (take-map, drop-map)

pub map-appended : {A B : Type 0} (f : A → B) (new old seen from : List A) (i j : ℕ) → seen ≡ from →
    new ≡ old ++ slice_range seen i j → map f new ≡ map f old ++ slice_range (map f from) i j
map-appended {B = B} f new old seen from i j same e =
    ap (map f) e ∙ map-append f old (slice_range seen i j)
    ∙ rw (map-slice_range f seen i j, same) refl

-- a part merged
pub merged-slice :
    {A B : Type 0} (f : A → B) (h : B → B → B) (new old seen from : List A) (i j : ℕ) →
    seen ≡ from → map f new ≡ merged h (map f old) (map f (slice_range seen i j)) →
    map f new ≡ merged h (map f old) (slice_range (map f from) i j)
merged-slice f h new old seen from i j same e = e ∙ rw (map-slice_range f seen i j, same) refl

-- the places that both have combined in the head, and what the second has beyond them appended
pub merges_written : {A : Type 0} →
    (R : A → A → A → Type 0) (xs seen ys w new : List A) (n m len rest : ℕ) →
    n ≡ min (length xs) (length ys) → m ≡ n → len ≡ length xs → rest ≡ length ys - n → seen ≡ xs →
    length w ≡ length xs → Combines R (take m seen) (take n ys) (take m w) →
    drop m w ≡ drop m seen → new ≡ take len (w ++ drop (length w) xs) ++ take rest (drop n ys) →
    Merges R xs ys new
merges_written {A = A} R xs seen ys w new n m len rest en em el er same size h kept e =
    let last : length (drop n ys) ≤ rest = omega (arith, length-drop n ys) in
    let whole : length w ≤ len = omega arith in
    let short : len ≤ length w = omega arith in
    let done = rw (em, same) at h in
    let unwritten : drop n w ≡ drop n xs = rw (em, same) at kept in
    let vector : take len (w ++ drop (length w) xs) ≡ w = take-append-le len w (drop (length w) xs)
    short ∙ take_all len w whole in
    let split : w ≡ take n w ++ drop n xs = sym (take-append-drop n w) ∙ ap
    (λ (zs : List A). take n w ++ zs) unwritten in
    let written : new ≡ (take n w ++ drop n xs) ++ drop n ys = e ∙ rw
    (vector, take_all rest (drop n ys) last) (ap (λ (zs : List A). zs ++ drop n ys) split) in
    rw written (merges_whole R xs ys (take n w) n en done)

pub slice_range-all : {A : Type 0} (xs : List A) (n : ℕ) → n ≡ length xs →
    slice_range xs 0 (0 + n) ≡ xs
slice_range-all xs n e = let h : length xs ≤ 0 + n - 0 = omega arith in take_all (0 + n - 0) xs h
