-- Bytes as lower-case hex digits, and read again.
use Rattle.std.proofs.Common.{◌≡◌, ℕ, true, List, length, Some, None}
use Rattle.std.proofs.Common.{Result, Ok, Err, refl, sym, ap, ◌∙◌}
use Rattle.std.specs.Prelude.{if◌then◌else◌}
use Rattle.std.specs.Str.{bytes_eq}
use Rattle.std.proofs.lemmas.Option.{cond_some}
use Rattle.std.proofs.lemmas.Slice.Eq.{bytes_eq-Decides}
use Rattle.hex.specs.declared.error.FromHexError.{FromHexError}
use Rattle.hex.specs.Hex.{IsBytes, encode_lower, decode_sized}
use Rattle.hex.proofs.HexLemmas.{decode_sized-encode_lower}
use Rattle.chain_file.specs.Reading.{hex_in, lower_of}

pub same_bytes : (xs : List ℕ) → bytes_eq xs xs ≡ true
same_bytes xs = (bytes_eq-Decides xs xs).1 refl

-- what was written is read again
pub hex_again : (number : ℕ) (bytes : List ℕ) → length bytes ≡ number → IsBytes bytes →
    hex_in number (encode_lower bytes) ≡ Some bytes
unfolding hex_in
hex_again number bytes long are = ap (lower_of (encode_lower bytes))
    (decode_sized-encode_lower bytes number long are)
    ∙ ap (λ t. if t then Some bytes else None) (same_bytes (encode_lower bytes))

lower_found : (word bytes : List ℕ) (r : Result (List ℕ) FromHexError) →
    lower_of word r ≡ Some bytes → (encode_lower bytes ≡ word) × (r ≡ Ok bytes)
lower_found word bytes (Ok read) h =
    let both = cond_some (bytes_eq (encode_lower read) word) read bytes h in (
      ap encode_lower (sym both.1) ∙ (bytes_eq-Decides (encode_lower read) word).0 both.0,
      ap Ok both.1,
    )
lower_found word bytes (Err fault) h = absurd cc

-- what was read is written so
pub hex_found : (number : ℕ) (word bytes : List ℕ) → hex_in number word ≡ Some bytes →
    (encode_lower bytes ≡ word) × (decode_sized word number ≡ Ok bytes)
unfolding hex_in
hex_found number word bytes h = lower_found word bytes (decode_sized word number) h
