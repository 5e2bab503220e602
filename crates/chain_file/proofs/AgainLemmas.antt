-- The text of a chain file is read again.
use Rattle.std.proofs.Common.{◌≡◌, ℕ, ◌+◌, ◌<◌, ◌≤◌, ◌==◌, true, List, [], ◌∷◌}
use Rattle.std.proofs.Common.{◌++◌, length, Option, Some, None, Ok, Err, zero, suc}
use Rattle.std.proofs.Common.{refl, sym, ap, ◌∙◌, subst, ⊎_elim, arith, slice_index}
use Rattle.std.proofs.Common.{append_assoc}
use Rattle.std.specs.Prelude.{nat_lt, All, IfSome, if◌then◌else◌}
use Rattle.std.specs.Str.{bytes_eq}
use Rattle.std.specs.Int.{w32, to_be_bytes, byte_at}
use Rattle.std.proofs.lemmas.Bool.{cases_lt, ltb-true}
use Rattle.std.proofs.lemmas.List.{append-nil}
use Rattle.std.proofs.lemmas.List.Elements.{All-nil, All-cons, All-append, All-head, All-tail}
use Rattle.std.proofs.lemmas.List.Elements.{All-get_or, All-weaker}
use Rattle.std.proofs.lemmas.List.Sums.{AllPass-from_list_all}
use Rattle.std.proofs.lemmas.List.Splits.{length-slice_split}
use Rattle.hex.specs.Hex.{IsBytes, encode_lower}
use Rattle.sha2.specs.Sha256.{sha256, digest_bytes, final_hash, initial_hash_256}
use Rattle.sha2.proofs.Facts256.{length-sha256}
use Rattle.chain_heads.specs.Heads.{head_of}
use Rattle.chain_file.specs.declared.run.Begun.{Begun}
use Rattle.chain_file.specs.declared.run.Run.{Run}
use Rattle.chain_file.specs.declared.fault.ChainFault.TheVariants.{BadLine}
use Rattle.chain_file.specs.Text.{Chain}
use Rattle.chain_file.specs.Words.{path_word, spaced}
use Rattle.chain_file.specs.Text.{with_begun, with_ended, with_runs, with_last, first_line, text_of}
use Rattle.chain_file.specs.Text.{IsBegun, IsRun, IsChain}
use Rattle.chain_file.specs.Words.{IsPath, IsDigest}
use Rattle.chain_file.specs.Reading.{◌>>=◌, parts, hex_in, path_in, Said, Begins, Ends, words_of}
use Rattle.chain_file.specs.Reading.{begun_in, ended_in, said_in, after_said, by_said, line_in}
use Rattle.chain_file.specs.Reading.{then_lines, lines_in, no_runs, file_in, chain_in}
use Rattle.chain_file.proofs.HexWordLemmas.{hex_again, same_bytes}
use Rattle.chain_file.proofs.SpellLemmas.{spelled_again, path_long, word_has}
use Rattle.chain_file.proofs.SolidLemmas.{Solid, Fits, hex_solid, words_solid, cut_at}
use Rattle.chain_file.proofs.SolidLemmas.{split_spaced, line_long}
use Rattle.chain_file.proofs.TextLemmas.{line_text, good_head, no_runs_text, runs_more}

---- Digests are bytes.

past_end : (xs : List ℕ) (i : ℕ) → length xs ≤ i → slice_index xs i ≡ 0
past_end [] i high = refl
past_end (x ∷ xs) zero high = absurd (omega (arith, high))
past_end (x ∷ xs) (suc i) high = past_end xs i (omega (arith, high))

all_bytes : (xs : List ℕ) → All (λ b. b < 256) xs → IsBytes xs
all_bytes xs all i = ⊎_elim
    (λ low. All-get_or (λ b. b < 256) xs i 0 low all)
    (λ high. let none = past_end xs i high in omega (arith, none))
    (cases_lt i (length xs))

word_bytes : (n : ℕ) → All (λ b. b < 256) (to_be_bytes w32 n)
word_bytes n =
    let P : ℕ → Type 0 = λ b. b < 256 in
    All-cons P (byte_at 3 n) (byte_at 2 n ∷ byte_at 1 n ∷ byte_at 0 n ∷ []) (omega arith)
    (All-cons P (byte_at 2 n) (byte_at 1 n ∷ byte_at 0 n ∷ []) (omega arith)
    (All-cons P (byte_at 1 n) (byte_at 0 n ∷ []) (omega arith)
    (All-cons P (byte_at 0 n) [] (omega arith) (All-nil P))))

digest_is_bytes : (h : List ℕ) (n : ℕ) → All (λ b. b < 256) (digest_bytes h n)
unfolding digest_bytes
digest_is_bytes h zero = All-nil (λ b. b < 256)
digest_is_bytes h (suc n) =
    All-append (λ b. b < 256) (digest_bytes h n) (to_be_bytes w32 (slice_index h n))
    (digest_is_bytes h n) (word_bytes (slice_index h n))

sha256_is_bytes : (m : List ℕ) → All (λ b. b < 256) (sha256 m)
unfolding sha256
sha256_is_bytes m = digest_is_bytes (final_hash initial_hash_256 m) 8

digest_again : (digest : List ℕ) → IsDigest digest → hex_in 32 (encode_lower digest) ≡ Some digest
digest_again digest is = hex_again 32 digest is.0 (all_bytes digest is.1)

head_again : (text : List ℕ) → hex_in 32 (head_of text) ≡ Some (sha256 text)
unfolding head_of
head_again text = digest_again (sha256 text) (length-sha256 text, sha256_is_bytes text)

head_solid : (text : List ℕ) → Solid (head_of text)
unfolding head_of
head_solid text = hex_solid (sha256 text) (sha256_is_bytes text)

path_again : (path : List ℕ) → IsPath path → path_in (path_word path) ≡ Some path
path_again path is =
    path_long (path_word path) (word_has path is.0) ∙ spelled_again path is.1

---- A line.

begun_again : (begun : Begun) (head digest : List ℕ) → IsBegun begun →
    hex_in 32 head ≡ Some digest →
    begun_in (path_word begun.policy ∷ encode_lower begun.policy_digest ∷ path_word begun.book
    ∷ head ∷ []) ≡ Some (Begins begun, head)
unfolding begun_in
begun_again begun head digest is h =
    let word = encode_lower begun.policy_digest in
    let book = path_word begun.book in
    ap (λ o. o >>= λ q. hex_in 32 word >>= λ f. path_in book >>= λ g. hex_in 32 head >>= λ _.
    Some (Begins (record { policy = q; policy_digest = f; book = g }), head))
    (path_again begun.policy is.policy)
    ∙ ap (λ o. o >>= λ f. path_in book >>= λ g. hex_in 32 head >>= λ _.
    Some (Begins (record { policy = begun.policy; policy_digest = f; book = g }), head))
    (digest_again begun.policy_digest is.policy_digest)
    ∙ ap (λ o. o >>= λ g. hex_in 32 head >>= λ _.
    Some (
      Begins (record { policy = begun.policy; policy_digest = begun.policy_digest; book = g }),
      head,
    )) (path_again begun.book is.book)
    ∙ ap (λ o. o >>= λ _. Some (Begins begun, head)) h

ended_again : (book_digest head digest : List ℕ) → IsDigest book_digest →
    hex_in 32 head ≡ Some digest →
    ended_in (encode_lower book_digest ∷ head ∷ []) ≡ Some (Ends book_digest, head)
unfolding ended_in
ended_again book_digest head digest is h =
    ap (λ o. o >>= λ f. hex_in 32 head >>= λ _. Some (Ends f, head)) (digest_again book_digest is)
    ∙ ap (λ o. o >>= λ _. Some (Ends book_digest, head)) h

said_again : (said : Said) (head digest : List ℕ) → Fits said → hex_in 32 head ≡ Some digest →
    said_in (words_of said ++ head ∷ []) ≡ Some (said, head)
unfolding said_in
said_again (Begins begun) head digest is h = begun_again begun head digest is h
said_again (Ends book_digest) head digest is h = ended_again book_digest head digest is h

-- the line that says this
abbrev line_of : Chain → Said → List ℕ
line_of chain said =
    spaced (words_of said) ++ head_of (text_of chain ++ spaced (words_of said))

line_again : (chain now : Chain) (number : ℕ) (said : Said) → Fits said →
    after_said chain said ≡ Some now → line_in chain number (line_of chain said) ≡ Ok now
line_again chain now number said fits after =
    let text = text_of chain ++ spaced (words_of said) in
    ap (λ ws. by_said chain number (said_in ws)) (split_spaced (words_of said) (head_of text)
    (words_solid said fits) (head_solid text))
    ∙ ap (by_said chain number) (said_again said (head_of text) (sha256 text) fits
    (head_again text))
    ∙ good_head chain now number said (head_of text) (head_of text) after refl
    (same_bytes (head_of text))

---- Lines.

some_part : (text : List ℕ) →
    (first : List ℕ) × ((more : List (List ℕ)) × (parts 10 text ≡ first ∷ more))
some_part text = has_first (parts 10 text) (let n = length-slice_split (λ b. b == 10) text in
    omega (arith, n))
  where
    has_first : (ls : List (List ℕ)) → 0 < length ls →
        (first : List ℕ) × ((more : List (List ℕ)) × (ls ≡ first ∷ more))
    has_first [] some = absurd (omega (arith, some))
    has_first (first ∷ more) some = (first, (more, refl))

lines_step : (chain : Chain) (number : ℕ) (line : List ℕ) (ls : List (List ℕ)) (now : Chain)
    (first : List ℕ) (more : List (List ℕ)) → ls ≡ first ∷ more →
    line_in chain number line ≡ Ok now →
    lines_in chain number (line ∷ ls) ≡ lines_in now (number + 1) ls
unfolding lines_in
lines_step chain number line ls now first more is h =
    ap (λ xs. lines_in chain number (line ∷ xs)) is
    ∙ ap (λ r. then_lines r (λ c. lines_in c (number + 1) (first ∷ more))) h
    ∙ ap (lines_in now (number + 1)) (sym is)

-- what stands behind the text of a chain, and what it comes to
record Goes (chain : Chain) (number : ℕ) (text : List ℕ) (end : Chain) : Type 0 where
  rest : List ℕ
  is : text ≡ text_of chain ++ rest
  read : lines_in chain number (parts 10 rest) ≡ Ok end

goes_end : (chain : Chain) (number : ℕ) → Goes chain number (text_of chain) chain
unfolding lines_in
goes_end chain number =
    record { rest = []; is = sym (append-nil (text_of chain)); read = refl }

goes_on : (chain now end : Chain) (number : ℕ) (said : Said) (text : List ℕ) → Fits said →
    after_said chain said ≡ Some now → Goes now (number + 1) text end →
    Goes chain number text end
goes_on chain now end number said text fits after goes =
    let words = spaced (words_of said) in
    let line = line_of chain said in
    let part = some_part goes.rest in record {
      rest = line ++ (10 ∷ goes.rest);
      is = goes.is ∙ ap (λ (t : List ℕ). t ++ goes.rest) (line_text chain said now after)
          ∙ append_assoc (text_of chain ++ words) (head_of (text_of chain ++ words) ++ 10 ∷ [])
          goes.rest
          ∙ append_assoc (text_of chain) words
          ((head_of (text_of chain ++ words) ++ 10 ∷ []) ++ goes.rest)
          ∙ ap (λ (t : List ℕ). text_of chain ++ (words ++ t))
          (append_assoc (head_of (text_of chain ++ words)) (10 ∷ []) goes.rest)
          ∙ ap (λ (t : List ℕ). text_of chain ++ t)
          (sym (append_assoc words (head_of (text_of chain ++ words)) (10 ∷ goes.rest)));
      read = ap (lines_in chain number) (cut_at 10 31 line goes.rest (omega arith)
          (line_long (words_of said) (head_of (text_of chain ++ words)) (words_solid said fits)
          (head_solid (text_of chain ++ words))))
          ∙ lines_step chain number line (parts 10 goes.rest) now part.0 part.1.0 part.1.1
          (line_again chain now number said fits after)
          ∙ goes.read;
    }

---- Runs.

with_text : (ended : List Run) (begun : Begun) →
    text_of (record { ended = ended; under_way = Some begun })
    ≡ with_begun (text_of (record { ended = ended; under_way = None })) begun
unfolding text_of
with_text ended begun = refl

last_goes : (ended : List Run) (last : Option Begun) (number : ℕ) → IfSome last IsBegun →
    Goes (record { ended = ended; under_way = None }) number
    (with_last (text_of (record { ended = ended; under_way = None })) last)
    (record { ended = ended; under_way = last })
last_goes ended None number fits = goes_end (record { ended = ended; under_way = None }) number
last_goes ended (Some begun) number fits =
    let chain : Chain = record { ended = ended; under_way = None } in
    let now : Chain = record { ended = ended; under_way = Some begun } in
    subst (λ (t : List ℕ). Goes chain number t now) (with_text ended begun)
    (goes_on chain now now number (Begins begun) (text_of now) fits refl
    (goes_end now (number + 1)))

ended_text : (ended : List Run) (run : Run) →
    text_of (record { ended = ended ++ run ∷ []; under_way = None })
    ≡ with_ended (with_begun (text_of (record { ended = ended; under_way = None })) run.begun)
    run.book_digest
unfolding text_of
ended_text ended run = runs_more (first_line ++ 10 ∷ []) ended run

runs_open : (text : List ℕ) (run : Run) (runs : List Run) → with_runs text (run ∷ runs)
    ≡ with_runs (with_ended (with_begun text run.begun) run.book_digest) runs
unfolding with_runs
runs_open text run runs = refl

runs_none : (text : List ℕ) → with_runs text [] ≡ text
unfolding with_runs
runs_none text = refl

runs_go : (ended runs : List Run) (last : Option Begun) (number : ℕ) → All IsRun runs →
    IfSome last IsBegun → Goes (record { ended = ended; under_way = None }) number
    (with_last (with_runs (text_of (record { ended = ended; under_way = None })) runs) last)
    (record { ended = ended ++ runs; under_way = last })
runs_go ended [] last number fits fits_last =
    let chain : Chain = record { ended = ended; under_way = None } in
    subst (λ (rs : List Run). Goes chain number (with_last (with_runs (text_of chain) []) last)
    (record { ended = rs; under_way = last })) (sym (append-nil ended))
    (subst (λ (t : List ℕ). Goes chain number (with_last t last)
    (record { ended = ended; under_way = last })) (sym (runs_none (text_of chain)))
    (last_goes ended last number fits_last))
runs_go ended (run ∷ runs) last number fits fits_last =
    let chain : Chain = record { ended = ended; under_way = None } in
    let opened : Chain = record { ended = ended; under_way = Some run.begun } in
    let now : Chain = record { ended = ended ++ run ∷ []; under_way = None } in
    let is = All-head IsRun run runs fits in
    let end : Chain = record { ended = ended ++ (run ∷ runs); under_way = last } in
    let text = with_last (with_runs (text_of now) runs) last in
    let rest : Goes now (number + 1 + 1) text end =
    subst (λ (rs : List Run). Goes now (number + 1 + 1) text
    (record { ended = rs; under_way = last })) (append_assoc ended (run ∷ []) runs)
    (runs_go (ended ++ run ∷ []) runs last (number + 1 + 1) (All-tail IsRun run runs fits)
    fits_last) in
    subst (λ (t : List ℕ). Goes chain number (with_last t last) end)
    (ap (λ (t : List ℕ). with_runs t runs) (ended_text ended run)
    ∙ sym (runs_open (text_of chain) run runs))
    (goes_on chain opened end number (Begins run.begun) text is.begun refl
    (goes_on opened now end (number + 1) (Ends run.book_digest) text is.book_digest refl rest))

chain_text : (chain : Chain) → text_of chain
    ≡ with_last (with_runs (text_of no_runs) chain.ended) chain.under_way
unfolding text_of with_runs
chain_text chain = refl

first_solid : All (λ b. 10 < b) first_line
first_solid = All-weaker (λ b. nat_lt 10 b ≡ true) (λ b. 10 < b) (λ b. ltb-true 10 b) first_line
    (AllPass-from_list_all (λ b. nat_lt 10 b) first_line refl)

file_step : (first : List ℕ) (ls : List (List ℕ)) (next : List ℕ) (more : List (List ℕ)) →
    ls ≡ next ∷ more → bytes_eq first first_line ≡ true →
    file_in (first ∷ ls) ≡ lines_in no_runs 2 ls
file_step first ls next more is same = ap (λ xs. file_in (first ∷ xs)) is
    ∙ ap (λ t. if t then lines_in no_runs 2 (next ∷ more) else Err (BadLine 1)) same
    ∙ ap (lines_in no_runs 2) (sym is)

pub chain_again : (chain : Chain) → IsChain chain → chain_in (text_of chain) ≡ Ok chain
unfolding chain_in
chain_again chain fits =
    let goes = runs_go [] chain.ended chain.under_way 2 fits.ended fits.under_way in
    let part = some_part goes.rest in
    ap (λ (t : List ℕ). file_in (parts 10 t)) (chain_text chain ∙ goes.is
    ∙ ap (λ (t : List ℕ). t ++ goes.rest) no_runs_text
    ∙ append_assoc first_line (10 ∷ []) goes.rest)
    ∙ ap file_in (cut_at 10 10 first_line goes.rest (omega arith) first_solid)
    ∙ file_step first_line (parts 10 goes.rest) part.0 part.1.0 part.1.1 refl
    ∙ goes.read
