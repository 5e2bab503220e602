-- What a line's words say, and the line that they are of.
use Rattle.std.proofs.Common.{◌≡◌, ℕ, ◌≤◌, true, false, List, [], ◌∷◌, ◌++◌, length}
use Rattle.std.proofs.Common.{Option, Some, None, refl, sym, ap, ◌∙◌, arith}
use Rattle.std.proofs.Common.{append_assoc, length-append}
use Rattle.std.specs.Prelude.{codes, is_some, IsSome, MatchOption, if◌then◌else◌}
use Rattle.std.proofs.Common.{Bor}
use Rattle.std.specs.List.{join_with_byte}
use Rattle.std.specs.Str.{bytes_eq}
use Rattle.std.proofs.lemmas.Option.{some_pair_parts}
use Rattle.std.proofs.lemmas.List.Splits.{join_with_byte-slice_split}
use Rattle.hex.proofs.HexLemmas.{decode_sized-ok}
use Rattle.chain_file.specs.declared.run.Begun.{Begun}
use Rattle.chain_file.specs.Words.{spaced}
use Rattle.chain_file.specs.Reading.{◌>>=◌, parts, hex_in, path_in, Said, Begins, Ends, words_of}
use Rattle.chain_file.specs.Reading.{begun_in, ended_in, said_in}
use Rattle.chain_file.specs.Walks.{SaysBegun}
use Rattle.chain_file.proofs.HexWordLemmas.{hex_found}
use Rattle.chain_file.proofs.SpellLemmas.{path_found}

---- From words to a line.

join_more : (word last : List ℕ) (words : List (List ℕ)) →
    join_with_byte 32 (word ∷ (words ++ last ∷ []))
    ≡ word ++ (32 ∷ join_with_byte 32 (words ++ last ∷ []))
join_more word last [] = refl
join_more word last (next ∷ words) = refl

joined : (words : List (List ℕ)) (last : List ℕ) →
    join_with_byte 32 (words ++ last ∷ []) ≡ spaced words ++ last
joined [] last = refl
joined (word ∷ words) last = join_more word last words
    ∙ ap (λ (t : List ℕ). word ++ (32 ∷ t)) (joined words last)
    ∙ sym (append_assoc word (32 ∷ []) (spaced words ++ last))
    ∙ sym (append_assoc (word ++ 32 ∷ []) (spaced words) last)

-- a line with these words and this head
pub record LineSays (line : List ℕ) (said : Said) (head : List ℕ) : Type 0 where
  pub is : line ≡ spaced (words_of said) ++ head
  pub long : length head ≡ 64

pub says_of : (line head : List ℕ) (said : Said) → parts 32 line ≡ words_of said ++ head ∷ [] →
    length head ≡ 64 → LineSays line said head
says_of line head said words long = record {
  is = sym (join_with_byte-slice_split 32 line) ∙ ap (join_with_byte 32) words
      ∙ joined (words_of said) head;
  long = long;
}

pub long_line : (line head : List ℕ) (said : Said) → LineSays line said head → 64 ≤ length line
long_line line head said says =
    let e = ap length says.is in
    omega (arith, e, length-append (spaced (words_of said)) head, says.long)

---- What words say.

pub bind_found : {A B : Type 0} (o : Option A) (f : A → Option B) (y : B) → (o >>= f) ≡ Some y →
    (x : A) × (o ≡ Some x) × (f x ≡ Some y)
bind_found None f y h = absurd cc
bind_found (Some x) f y h = (x, refl, h)

head_long : (head digest : List ℕ) → hex_in 32 head ≡ Some digest → length head ≡ 64
head_long head digest h = decode_sized-ok head 32 digest (hex_found 32 head digest h).1

-- the words behind the first, and the head
pub record WordsSay (words : List (List ℕ)) (said : Said) (head : List ℕ) : Type 0 where
  pub are : words ≡ words_of said ++ head ∷ []
  pub long : length head ≡ 64

pub same_some : (said other : Said) (head last : List ℕ) →
    ◌≡◌ {A = Option (Said × List ℕ)} (Some (other, last)) (Some (said, head)) →
    (other ≡ said) × (last ≡ head)
same_some said other head last h = some_pair_parts other said last head h

words_say : (words : List (List ℕ)) (said other : Said) (head last : List ℕ) →
    words ≡ words_of other ++ last ∷ [] → length last ≡ 64 →
    ◌≡◌ {A = Option (Said × List ℕ)} (Some (other, last)) (Some (said, head)) →
    WordsSay words said head
words_say words said other head last are long h =
    let same = same_some said other head last h in record {
      are = are ∙ ap (λ (s : Said). words_of s ++ last ∷ []) same.0
          ∙ ap (λ (l : List ℕ). words_of said ++ l ∷ []) same.1;
      long = sym (ap length same.1) ∙ long;
    }

pub begun_found : (words : List (List ℕ)) (said : Said) (head : List ℕ) →
    begun_in words ≡ Some (said, head) → WordsSay (codes "begun" ∷ words) said head
unfolding begun_in
begun_found [] said head h = absurd cc
begun_found (p ∷ []) said head h = absurd cc
begun_found (p ∷ d ∷ []) said head h = absurd cc
begun_found (p ∷ d ∷ b ∷ []) said head h = absurd cc
begun_found (p ∷ d ∷ b ∷ last ∷ []) said head h =
    let one = bind_found (path_in p) (λ policy. hex_in 32 d >>= λ digest. path_in b >>= λ book.
    hex_in 32 last >>= λ _.
    Some (Begins (record { policy = policy; policy_digest = digest; book = book }), last))
    (said, head) h in
    let two = bind_found (hex_in 32 d) (λ digest. path_in b >>= λ book. hex_in 32 last >>= λ _.
    Some (Begins (record { policy = one.0; policy_digest = digest; book = book }), last))
    (said, head) one.2 in
    let three = bind_found (path_in b) (λ book. hex_in 32 last >>= λ _.
    Some (Begins (record { policy = one.0; policy_digest = two.0; book = book }), last))
    (said, head) two.2 in
    let four = bind_found (hex_in 32 last) (λ _.
    Some (Begins (record { policy = one.0; policy_digest = two.0; book = three.0 }), last))
    (said, head) three.2 in
    words_say (codes "begun" ∷ p ∷ d ∷ b ∷ last ∷ []) said
    (Begins (record { policy = one.0; policy_digest = two.0; book = three.0 })) head last
    (λ i. codes "begun" ∷ sym (path_found p one.0 one.1) i
    ∷ sym (hex_found 32 d two.0 two.1).0 i ∷ sym (path_found b three.0 three.1) i ∷ last ∷ [])
    (head_long last four.0 four.1) four.2
begun_found (p ∷ d ∷ b ∷ last ∷ more ∷ words) said head h = absurd cc

pub ended_found : (words : List (List ℕ)) (said : Said) (head : List ℕ) →
    ended_in words ≡ Some (said, head) → WordsSay (codes "ended" ∷ words) said head
unfolding ended_in
ended_found [] said head h = absurd cc
ended_found (d ∷ []) said head h = absurd cc
ended_found (d ∷ last ∷ []) said head h =
    let one = bind_found (hex_in 32 d) (λ digest. hex_in 32 last >>= λ _.
    Some (Ends digest, last)) (said, head) h in
    let two = bind_found (hex_in 32 last) (λ _. Some (Ends one.0, last)) (said, head) one.2 in
    words_say (codes "ended" ∷ d ∷ last ∷ []) said (Ends one.0) head last
    (λ i. codes "ended" ∷ sym (hex_found 32 d one.0 one.1).0 i ∷ last ∷ [])
    (head_long last two.0 two.1) two.2
ended_found (d ∷ last ∷ more ∷ words) said head h = absurd cc

---- A line of this first word.

pub begun_says : (line : List ℕ) (words : List (List ℕ)) (begun : Begun) (head : List ℕ) →
    parts 32 line ≡ codes "begun" ∷ words → begun_in words ≡ Some (Begins begun, head) →
    LineSays line (Begins begun) head
begun_says line words begun head split said =
    let found = begun_found words (Begins begun) head said in
    says_of line head (Begins begun) (split ∙ found.are) found.long

pub ended_says : (line : List ℕ) (words : List (List ℕ)) (digest head : List ℕ) →
    parts 32 line ≡ codes "ended" ∷ words → ended_in words ≡ Some (Ends digest, head) →
    LineSays line (Ends digest) head
ended_says line words digest head split said =
    let found = ended_found words (Ends digest) head said in
    says_of line head (Ends digest) (split ∙ found.are) found.long

---- By the first word.

pub said_begun : (line verb : List ℕ) (words : List (List ℕ)) → parts 32 line ≡ verb ∷ words →
    bytes_eq verb (codes "begun") ≡ true → said_in (parts 32 line) ≡ begun_in words
unfolding said_in
said_begun line verb words split is = ap said_in split
    ∙ ap (λ t. if t then begun_in words else if bytes_eq verb (codes "ended") then ended_in words
    else None) is

pub said_ended : (line verb : List ℕ) (words : List (List ℕ)) → parts 32 line ≡ verb ∷ words →
    bytes_eq verb (codes "begun") ≡ false → bytes_eq verb (codes "ended") ≡ true →
    said_in (parts 32 line) ≡ ended_in words
unfolding said_in
said_ended line verb words split first is = ap said_in split
    ∙ ap (λ t. if t then begun_in words else if bytes_eq verb (codes "ended") then ended_in words
    else None) first
    ∙ ap (λ t. if t then ended_in words else None) is

pub said_none : (line verb : List ℕ) (words : List (List ℕ)) → parts 32 line ≡ verb ∷ words →
    bytes_eq verb (codes "begun") ≡ false → bytes_eq verb (codes "ended") ≡ false →
    said_in (parts 32 line) ≡ None
unfolding said_in
said_none line verb words split first is = ap said_in split
    ∙ ap (λ t. if t then begun_in words else if bytes_eq verb (codes "ended") then ended_in words
    else None) first
    ∙ ap (λ t. if t then ended_in words else None) is

pub said_nothing : (line : List ℕ) → parts 32 line ≡ [] → said_in (parts 32 line) ≡ None
unfolding said_in
said_nothing line none = ap said_in none

---- Words that were read.

some_is : {A : Type 0} (o : Option A) → IsSome o → (x : A) × (o ≡ Some x)
some_is None h = absurd cc
some_is (Some x) h = (x, refl)

pub begun_made : (words behind_policy behind_digest behind_book behind : List (List ℕ))
    (policy digest_word book head digest : List ℕ) → words ≡ policy ∷ behind_policy →
    behind_policy ≡ digest_word ∷ behind_digest → behind_digest ≡ book ∷ behind_book →
    behind_book ≡ head ∷ behind → behind ≡ [] → IsSome (path_in policy) → IsSome (path_in book) →
    hex_in 32 digest_word ≡ Some digest → IsSome (hex_in 32 head) →
    SaysBegun words policy digest book head
unfolding begun_in
begun_made words w1 w2 w3 w4 policy word book head digest a b c d e is_policy is_book is_digest
    is_head =
    let p = some_is (path_in policy) is_policy in
    let k = some_is (path_in book) is_book in
    let h = some_is (hex_in 32 head) is_head in
    let are : words ≡ policy ∷ word ∷ book ∷ head ∷ [] =
    a ∙ ap (λ ws. policy ∷ ws) (b ∙ ap (λ ws. word ∷ ws) (c ∙ ap (λ ws. book ∷ ws)
    (d ∙ ap (λ ws. head ∷ ws) e))) in record {
      begun = record { policy = p.0; policy_digest = digest; book = k.0 };
      said = ap begun_in are
          ∙ ap (λ o. o >>= λ q. hex_in 32 word >>= λ f. path_in book >>= λ g.
          hex_in 32 head >>= λ _.
          Some (Begins (record { policy = q; policy_digest = f; book = g }), head)) p.1
          ∙ ap (λ o. o >>= λ f. path_in book >>= λ g. hex_in 32 head >>= λ _.
          Some (Begins (record { policy = p.0; policy_digest = f; book = g }), head)) is_digest
          ∙ ap (λ o. o >>= λ g. hex_in 32 head >>= λ _.
          Some (Begins (record { policy = p.0; policy_digest = digest; book = g }), head)) k.1
          ∙ ap (λ o. o >>= λ _.
          Some (Begins (record { policy = p.0; policy_digest = digest; book = k.0 }), head)) h.1;
      by_policy = p.1;
      by_book = k.1;
      by_digest = refl;
    }

pub none_left : (part : Option (Bor (List ℕ))) (before after : List (List ℕ)) →
    is_some part ≡ false → MatchOption part ((before ≡ []) × (after ≡ []))
    (λ p. before ≡ p.now ∷ after) → before ≡ []
none_left None before after none h = h.0
none_left (Some p) before after none h = absurd cc
