-- What two texts with one head have in common.
use Rattle.std.proofs.Common.{◌≡◌, ◌⊎◌, ℕ, zero, suc, ◌<◌, ◌≤◌, List, [], ◌∷◌}
use Rattle.std.proofs.Common.{◌++◌, length, map, refl, sym, ap, ◌∙◌, subst, inl, inr, ⊎_elim, arith}
use Rattle.std.proofs.Common.{slice_index, append_assoc, length-append}
use Rattle.std.specs.Prelude.{All}
use Rattle.std.specs.Str.{bytes_eq}
use Rattle.std.specs.Int.{w32, to_be_bytes, byte_at}
use Rattle.std.proofs.lemmas.Bool.{cases_lt, cases_Bool, false≢true}
use Rattle.std.proofs.lemmas.List.{append-nil}
use Rattle.std.proofs.lemmas.List.Elements.{All-nil, All-cons, All-append, All-get_or, All-take}
use Rattle.std.proofs.lemmas.List.Elements.{All-head, All-tail}
use Rattle.std.proofs.lemmas.Slice.Eq.{bytes_eq-Decides}
use Rattle.std.proofs.Math.Seq.{take-append_seam}
use Rattle.hex.specs.Hex.{IsBytes, decode_of, encode_lower}
use Rattle.hex.proofs.HexLemmas.{decode_of-encode_lower, decode_of-same}
use Rattle.sha2.specs.Sha256.{sha256, digest_bytes, final_hash, initial_hash_256}
use Rattle.chain_heads.specs.Heads as heads
use Rattle.chain_heads.specs.Heads.{IsMessage, Collision, head_of, with_line, text_of, EndsWithHead}
use Rattle.chain_heads.specs.Heads.{HasHead}

---- Digests are bytes, so a head tells its digest.

abbrev Bytes : List ℕ → Type 0
Bytes m = All (λ b. b < 256) m

word_bytes : (n : ℕ) → Bytes (to_be_bytes w32 n)
word_bytes n =
    let P : ℕ → Type 0 = λ b. b < 256 in
    All-cons P (byte_at 3 n) (byte_at 2 n ∷ byte_at 1 n ∷ byte_at 0 n ∷ []) (omega arith)
    (All-cons P (byte_at 2 n) (byte_at 1 n ∷ byte_at 0 n ∷ []) (omega arith)
    (All-cons P (byte_at 1 n) (byte_at 0 n ∷ []) (omega arith)
    (All-cons P (byte_at 0 n) [] (omega arith) (All-nil P))))

digest_is_bytes : (h : List ℕ) (n : ℕ) → Bytes (digest_bytes h n)
unfolding digest_bytes
digest_is_bytes h zero = All-nil (λ b. b < 256)
digest_is_bytes h (suc n) =
    All-append (λ b. b < 256) (digest_bytes h n) (to_be_bytes w32 (slice_index h n))
    (digest_is_bytes h n) (word_bytes (slice_index h n))

sha256_is_bytes : (m : List ℕ) → Bytes (sha256 m)
unfolding sha256
sha256_is_bytes m = digest_is_bytes (final_hash initial_hash_256 m) 8

past_end : (xs : List ℕ) (i : ℕ) → length xs ≤ i → slice_index xs i ≡ 0
past_end [] i high = refl
past_end (x ∷ xs) zero high = absurd (omega (arith, high))
past_end (x ∷ xs) (suc i) high = past_end xs i (omega (arith, high))

all_bytes : (xs : List ℕ) → Bytes xs → IsBytes xs
all_bytes xs all i = ⊎_elim
    (λ low. All-get_or (λ b. b < 256) xs i 0 low all)
    (λ high. let none = past_end xs i high in omega (arith, none))
    (cases_lt i (length xs))

-- who has one head has one digest
head_tells : (one other : List ℕ) → head_of one ≡ head_of other → sha256 one ≡ sha256 other
unfolding head_of
head_tells one other same =
    decode_of-same (encode_lower (sha256 one)) (sha256 one) (sha256 other)
    (decode_of-encode_lower (sha256 one) (all_bytes (sha256 one) (sha256_is_bytes one)))
    (ap decode_of same
    ∙ decode_of-encode_lower (sha256 other) (all_bytes (sha256 other) (sha256_is_bytes other)))

---- Fronts of messages are messages.

front_message : (front rest : List ℕ) → IsMessage (front ++ rest) → IsMessage front
front_message front rest m = record {
  bytes = subst Bytes (take-append_seam front rest)
      (All-take (λ b. b < 256) (length front) (front ++ rest) m.bytes);
  few = let long = length-append front rest in omega (arith, long, m.few);
}

-- messages of one digest are one, or in hand
one_or_two : (one other : List ℕ) → IsMessage one → IsMessage other →
    sha256 one ≡ sha256 other → (one ≡ other) ⊎ Collision
one_or_two one other m n same =
    let tells = bytes_eq-Decides one other in
    ⊎_elim
    (λ equal. inl (tells.0 equal))
    (λ differ. inr (record {
      one = one;
      other = other;
      one_is = m;
      other_is = n;
      apart = λ is. false≢true (sym differ ∙ tells.1 is);
      same = same;
    }))
    (cases_Bool (bytes_eq one other))

---- Heads.

pub heads_decide : heads.HeadsDecide
heads_decide one other head m n ends ends' = ⊎_elim
    (λ same. inl (ends.is ∙ ap (λ b. b ++ (head ++ 10 ∷ [])) same ∙ sym ends'.is))
    (λ two. inr two)
    (one_or_two ends.before ends'.before
    (front_message ends.before (head ++ 10 ∷ []) (subst IsMessage ends.is m))
    (front_message ends'.before (head ++ 10 ∷ []) (subst IsMessage ends'.is n))
    (head_tells ends.before ends'.before (sym ends.due ∙ ends'.due)))

pub lines_end_with_heads : heads.LinesEndWithHeads
lines_end_with_heads first words older =
    record { before = text_of first older ++ words; is = refl; due = refl }

-- a text begins with that of its older lines
older_text : (first : List ℕ) (later older : List (List ℕ)) →
    (rest : List ℕ) × (text_of first (later ++ older) ≡ text_of first older ++ rest)
older_text first [] older = ([], sym (append-nil (text_of first older)))
older_text first (words ∷ later) older =
    let before = older_text first later older in
    let text = text_of first (later ++ older) in
    let end = head_of (text ++ words) ++ 10 ∷ [] in (
      (before.0 ++ words) ++ end,
      ap (λ t. (t ++ words) ++ end) before.1
          ∙ ap (λ t. t ++ end) (append_assoc (text_of first older) before.0 words)
          ∙ append_assoc (text_of first older) (before.0 ++ words) end,
    )

pub heads_fix_what_is_before : heads.HeadsFixWhatIsBefore
heads_fix_what_is_before first one lines head m n ends has =
    let front = text_of first (has.words ∷ has.older) in
    let longer = older_text first has.later (has.words ∷ has.older) in
    let is : text_of first lines ≡ front ++ longer.0 =
    ap (text_of first) (sym has.are) ∙ longer.1 in
    let ends_so : EndsWithHead front head = record {
      before = text_of first has.older ++ has.words;
      is = ap (λ h. (text_of first has.older ++ has.words) ++ (h ++ 10 ∷ [])) (sym has.due);
      due = has.due;
    } in
    ⊎_elim
    (λ same. inl (longer.0, is ∙ ap (λ t. t ++ longer.0) (sym same)))
    (λ two. inr two)
    (heads_decide one front head m (front_message front longer.0 (subst IsMessage is n)) ends
    ends_so)

---- Files.

files_decide : (files others : List (List ℕ)) → All IsMessage files → All IsMessage others →
    map sha256 files ≡ map sha256 others → (files ≡ others) ⊎ Collision
files_decide [] [] ms ns same = inl refl
files_decide [] (o ∷ others) ms ns same = absurd cc
files_decide (f ∷ files) [] ms ns same = absurd cc
files_decide (f ∷ files) (o ∷ others) ms ns same =
    let first : sha256 f ≡ sha256 o = cc in
    let behind : map sha256 files ≡ map sha256 others = cc in
    ⊎_elim
    (λ is. ⊎_elim
    (λ are. inl (ap (λ g. g ∷ files) is ∙ ap (λ gs. o ∷ gs) are))
    (λ two. inr two)
    (files_decide files others (All-tail IsMessage f files ms) (All-tail IsMessage o others ns)
    behind))
    (λ two. inr two)
    (one_or_two f o (All-head IsMessage f files ms) (All-head IsMessage o others ns) first)

pub heads_decide_files : heads.HeadsDecideFiles
heads_decide_files digests_in one other head files others m n ends ends' ms ns are are' = ⊎_elim
    (λ same. ⊎_elim
    (λ files_are. inl (same, files_are))
    (λ two. inr two)
    (files_decide files others ms ns (are ∙ ap digests_in same ∙ sym are')))
    (λ two. inr two)
    (heads_decide one other head m n ends ends')
