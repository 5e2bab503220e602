-- What is read from a text can stand in a chain file.
use Rattle.std.proofs.Common.{◌≡◌, ℕ, suc, ◌+◌, ◌<◌, ◌==◌, true, List, [], ◌∷◌}
use Rattle.std.proofs.Common.{◌++◌, length, Option, Some, None, Ok, Err, sym, ◌∙◌}
use Rattle.std.proofs.Common.{subst, ⊎_elim, arith}
use Rattle.std.specs.Prelude.{◌&&◌, not, nat_lt, codes, All, IfSome, if◌then◌else◌}
use Rattle.std.specs.Str.{bytes_eq}
use Rattle.std.proofs.lemmas.Bool.{and_parts, cases_Bool, ltb-true}
use Rattle.std.proofs.lemmas.List.Elements.{All-nil, All-cons, All-push}
use Rattle.std.proofs.lemmas.Option.{same_Some}
use Rattle.hex.specs.Hex.{IsBytes}
use Rattle.hex.proofs.HexLemmas.{decode_sized-ok, decode_sized-twice, decode_of-ok}
use Rattle.chain_file.specs.declared.run.Begun.{Begun}
use Rattle.chain_file.specs.declared.run.Run.{Run}
use Rattle.chain_file.specs.declared.fault.ChainFault.TheVariants.{BadLine, Cut}
use Rattle.chain_file.specs.Text.{Chain, first_line}
use Rattle.chain_file.specs.Words.{is_plain}
use Rattle.chain_file.specs.Text.{IsBegun, IsRun, IsChain}
use Rattle.chain_file.specs.Words.{IsPath}
use Rattle.chain_file.specs.Reading.{◌>>=◌, parts, hex_in, path_in, plain_then, escaped_then}
use Rattle.chain_file.specs.Reading.{spelled_in, Said, Begins, Ends, begun_in, ended_in, said_in}
use Rattle.chain_file.specs.Reading.{entered, after_said, line_in, lines_in, no_runs, file_in}
use Rattle.chain_file.specs.Reading.{chain_in}
use Rattle.chain_file.proofs.HexWordLemmas.{hex_found}
use Rattle.chain_file.proofs.SpellLemmas.{plain_found, escaped_found, Step, path_some, path_has}
use Rattle.chain_file.proofs.LineLemmas.{bind_found, same_some}
use Rattle.chain_file.proofs.SolidLemmas.{Fits}
use Rattle.chain_file.proofs.FoundLemmas.{if_true, if_false, by_said_found, then_found}

---- Words.

bytes_all : (xs : List ℕ) → IsBytes xs → All (λ b. b < 256) xs
bytes_all [] are = All-nil (λ b. b < 256)
bytes_all (b ∷ xs) are =
    All-cons (λ c. c < 256) b xs (are 0) (bytes_all xs (λ i. are (suc i)))

hex_known : (number : ℕ) (word bytes : List ℕ) → hex_in number word ≡ Some bytes →
    (length bytes ≡ number) × All (λ b. b < 256) bytes
hex_known number word bytes h =
    let read = (hex_found number word bytes h).1 in
    let long = decode_sized-ok word number bytes read in
    let ok = decode_of-ok word bytes (sym (decode_sized-twice word number long) ∙ read) in
    (omega (arith, long, ok.2), bytes_all bytes ok.3)

plain_low : (b : ℕ) → is_plain b ≡ true → b < 256
plain_low b plain =
    let p = and_parts (nat_lt 32 b) (nat_lt b 127 && not (b == 37)) plain in
    let q = ltb-true b 127 (and_parts (nat_lt b 127) (not (b == 37)) p.1).0 in omega (arith, q)

step_low : (b : ℕ) (r : Option (List ℕ)) (path : List ℕ) (s : Step b r path) → b < 256 →
    All (λ c. c < 256) s.rest → All (λ c. c < 256) path
step_low b r path s low rest = subst (λ (p : List ℕ). All (λ c. c < 256) p) (sym s.is)
    (All-cons (λ c. c < 256) b s.rest low rest)

none_low : (path : List ℕ) → Some [] ≡ Some path → All (λ c. c < 256) path
none_low path h = subst (λ (p : List ℕ). All (λ c. c < 256) p)
    (let e : [] ≡ path = cc in e) (All-nil (λ c. c < 256))

spelled_low : (word path : List ℕ) → spelled_in word ≡ Some path → All (λ b. b < 256) path
unfolding spelled_in
spelled_low [] path h = none_low path h
spelled_low (b ∷ []) path h =
    let f = plain_found b (Some []) path h in
    step_low b (Some []) path f.1 (plain_low b f.0) (none_low f.1.rest f.1.was)
spelled_low (b ∷ c ∷ []) path h =
    let f = plain_found b (plain_then c (Some [])) path h in
    step_low b (plain_then c (Some [])) path f.1 (plain_low b f.0)
    (spelled_low (c ∷ []) f.1.rest f.1.was)
spelled_low (b ∷ c ∷ l ∷ word) path h = ⊎_elim
    (λ percent.
    let k : escaped_then (hex_in 1 (c ∷ l ∷ [])) (spelled_in word) ≡ Some path =
    sym (if_true (b == 37) (escaped_then (hex_in 1 (c ∷ l ∷ [])) (spelled_in word))
    (plain_then b (spelled_in (c ∷ l ∷ word))) percent) ∙ h in
    let f = escaped_found (hex_in 1 (c ∷ l ∷ [])) (spelled_in word) path k in
    let low = (hex_known 1 (c ∷ l ∷ []) (f.0 ∷ []) f.1).1 0 0 (omega arith) in
    step_low f.0 (spelled_in word) path f.3 low (spelled_low word f.3.rest f.3.was))
    (λ other.
    let k : plain_then b (spelled_in (c ∷ l ∷ word)) ≡ Some path =
    sym (if_false (b == 37) (escaped_then (hex_in 1 (c ∷ l ∷ [])) (spelled_in word))
    (plain_then b (spelled_in (c ∷ l ∷ word))) other) ∙ h in
    let f = plain_found b (spelled_in (c ∷ l ∷ word)) path k in
    step_low b (spelled_in (c ∷ l ∷ word)) path f.1 (plain_low b f.0)
    (spelled_low (c ∷ l ∷ word) f.1.rest f.1.was))
    (cases_Bool (b == 37))

path_known : (word path : List ℕ) → path_in word ≡ Some path → IsPath path
path_known word path h = (path_has word path h, spelled_low word path (path_some word path h))

---- What a line says.

pub begun_fits : (words : List (List ℕ)) (said : Said) (head : List ℕ) →
    begun_in words ≡ Some (said, head) → Fits said
unfolding begun_in
begun_fits [] said head h = absurd cc
begun_fits (p ∷ []) said head h = absurd cc
begun_fits (p ∷ d ∷ []) said head h = absurd cc
begun_fits (p ∷ d ∷ b ∷ []) said head h = absurd cc
begun_fits (p ∷ d ∷ b ∷ last ∷ []) said head h =
    let one = bind_found (path_in p) (λ policy. hex_in 32 d >>= λ digest. path_in b >>= λ book.
    hex_in 32 last >>= λ _.
    Some (Begins (record { policy = policy; policy_digest = digest; book = book }), last))
    (said, head) h in
    let two = bind_found (hex_in 32 d) (λ digest. path_in b >>= λ book. hex_in 32 last >>= λ _.
    Some (Begins (record { policy = one.0; policy_digest = digest; book = book }), last))
    (said, head) one.2 in
    let three = bind_found (path_in b) (λ book. hex_in 32 last >>= λ _.
    Some (Begins (record { policy = one.0; policy_digest = two.0; book = book }), last))
    (said, head) two.2 in
    let four = bind_found (hex_in 32 last) (λ _.
    Some (Begins (record { policy = one.0; policy_digest = two.0; book = three.0 }), last))
    (said, head) three.2 in
    let begun : Begun = record { policy = one.0; policy_digest = two.0; book = three.0 } in
    subst Fits (same_some said (Begins begun) head last four.2).0 (record {
      policy = path_known p one.0 one.1;
      policy_digest = hex_known 32 d two.0 two.1;
      book = path_known b three.0 three.1;
    })
begun_fits (p ∷ d ∷ b ∷ last ∷ more ∷ words) said head h = absurd cc

pub ended_fits : (words : List (List ℕ)) (said : Said) (head : List ℕ) →
    ended_in words ≡ Some (said, head) → Fits said
unfolding ended_in
ended_fits [] said head h = absurd cc
ended_fits (d ∷ []) said head h = absurd cc
ended_fits (d ∷ last ∷ []) said head h =
    let one = bind_found (hex_in 32 d) (λ digest. hex_in 32 last >>= λ _.
    Some (Ends digest, last)) (said, head) h in
    let two = bind_found (hex_in 32 last) (λ _. Some (Ends one.0, last)) (said, head) one.2 in
    subst Fits (same_some said (Ends one.0) head last two.2).0 (hex_known 32 d one.0 one.1)
ended_fits (d ∷ last ∷ more ∷ words) said head h = absurd cc

said_fits : (words : List (List ℕ)) (said : Said) (head : List ℕ) →
    said_in words ≡ Some (said, head) → Fits said
unfolding said_in
said_fits [] said head h = absurd cc
said_fits (verb ∷ words) said head h = ⊎_elim
    (λ begun. begun_fits words said head
    (sym (if_true (bytes_eq verb (codes "begun")) (begun_in words)
    (if bytes_eq verb (codes "ended") then ended_in words else None) begun) ∙ h))
    (λ not_begun.
    let k = sym (if_false (bytes_eq verb (codes "begun")) (begun_in words)
    (if bytes_eq verb (codes "ended") then ended_in words else None) not_begun) ∙ h in
    ⊎_elim
    (λ ended. ended_fits words said head
    (sym (if_true (bytes_eq verb (codes "ended")) (ended_in words) None ended) ∙ k))
    (λ not_ended. absurd (let e : None ≡ Some (said, head) =
    sym (if_false (bytes_eq verb (codes "ended")) (ended_in words) None not_ended) ∙ k in cc))
    (cases_Bool (bytes_eq verb (codes "ended"))))
    (cases_Bool (bytes_eq verb (codes "begun")))

---- Chains.

entered_known : (ended : List Run) (last : Option Begun) (said : Said) (now : Chain) →
    All IsRun ended → IfSome last IsBegun → Fits said → entered ended last said ≡ Some now →
    IsChain now
entered_known ended None (Begins begun) now are is fits h =
    subst IsChain (same_Some (record { ended = ended; under_way = Some begun }) now h)
    (record { ended = are; under_way = fits })
entered_known ended None (Ends digest) now are is fits h = absurd cc
entered_known ended (Some last) (Begins begun) now are is fits h = absurd cc
entered_known ended (Some last) (Ends digest) now are is fits h =
    let run : Run = record { begun = last; book_digest = digest } in
    subst IsChain (same_Some (record { ended = ended ++ run ∷ []; under_way = None }) now h)
    (record {
      ended = All-push IsRun ended run are (record { begun = is; book_digest = fits });
      under_way = tt;
    })

pub said_known : (chain : Chain) (said : Said) (now : Chain) → IsChain chain → Fits said →
    after_said chain said ≡ Some now → IsChain now
said_known chain said now is fits h =
    entered_known chain.ended chain.under_way said now is.ended is.under_way fits h

line_known : (chain : Chain) (number : ℕ) (line : List ℕ) (now : Chain) → IsChain chain →
    line_in chain number line ≡ Ok now → IsChain now
line_known chain number line now is h =
    let t = by_said_found chain number (said_in (parts 32 line)) now h in
    said_known chain t.said now is (said_fits (parts 32 line) t.said t.head t.is) t.after

last_known : (chain : Chain) (rest : List ℕ) (now : Chain) → IsChain chain →
    (if length rest == 0 then Ok chain else Err Cut) ≡ Ok now → IsChain now
last_known chain rest now is h = ⊎_elim
    (λ none.
    let e : Ok chain ≡ Ok now = sym (if_true (length rest == 0) (Ok chain) (Err Cut) none) ∙ h in
    subst IsChain (let k : chain ≡ now = cc in k) is)
    (λ some. absurd (let e : Err Cut ≡ Ok now =
    sym (if_false (length rest == 0) (Ok chain) (Err Cut) some) ∙ h in cc))
    (cases_Bool (length rest == 0))

lines_known : (chain : Chain) (number : ℕ) (lines : List (List ℕ)) (now : Chain) →
    IsChain chain → lines_in chain number lines ≡ Ok now → IsChain now
unfolding lines_in
lines_known chain number [] now is h = absurd cc
lines_known chain number (rest ∷ []) now is h = last_known chain rest now is h
lines_known chain number (line ∷ next ∷ more) now is h =
    let t = then_found (line_in chain number line)
    (λ c. lines_in c (number + 1) (next ∷ more)) now h in
    lines_known t.0 (number + 1) (next ∷ more) now (line_known chain number line t.0 is t.1) t.2

pub no_runs_known : IsChain no_runs
no_runs_known = record { ended = All-nil IsRun; under_way = tt }

file_known : (lines : List (List ℕ)) (now : Chain) → file_in lines ≡ Ok now → IsChain now
file_known [] now h = absurd cc
file_known (first ∷ []) now h = absurd cc
file_known (first ∷ next ∷ more) now h = ⊎_elim
    (λ same. lines_known no_runs 2 (next ∷ more) now no_runs_known
    (sym (if_true (bytes_eq first first_line) (lines_in no_runs 2 (next ∷ more))
    (Err (BadLine 1)) same) ∙ h))
    (λ other. absurd (let e : Err (BadLine 1) ≡ Ok now =
    sym (if_false (bytes_eq first first_line) (lines_in no_runs 2 (next ∷ more))
    (Err (BadLine 1)) other) ∙ h in cc))
    (cases_Bool (bytes_eq first first_line))

pub chain_known : (text : List ℕ) (now : Chain) → chain_in text ≡ Ok now → IsChain now
unfolding chain_in
chain_known text now h = file_known (parts 10 text) now h
