-- The text of a chain, line by line.
use Rattle.std.proofs.Common.{◌≡◌, ℕ, Bool, true, false, List, [], ◌∷◌, ◌++◌, Option, Some, None}
use Rattle.std.proofs.Common.{Ok, Err, refl, sym, ap, ◌∙◌, subst, append_assoc}
use Rattle.std.specs.Prelude.{is_some, if◌then◌else◌, codes, not}
use Rattle.std.proofs.lemmas.Bool.{not-true, not-false}
use Rattle.std.specs.Str.{bytes_eq}
use Rattle.std.proofs.lemmas.Option.{same_Some}
use Rattle.std.proofs.lemmas.List.Elements.{All-nil}
use Rattle.sha2.specs.declared.Sha256.{Sha256}
use Rattle.sha2.specs.Hashers.{Holds256}
use Rattle.chain_heads.specs.Heads.{head_of, with_line}
use Rattle.chain_file.specs.declared.run.Begun.{Begun}
use Rattle.chain_file.specs.declared.run.Run.{Run}
use Rattle.chain_file.specs.declared.fault.ChainFault.TheVariants.{BadHead}
use Rattle.chain_file.specs.Text.{Chain, IsRun, IsChain, with_words, with_begun, with_ended, with_runs}
use Rattle.chain_file.specs.Words.{spaced}
use Rattle.chain_file.specs.Text.{first_line, text_of}
use Rattle.chain_file.specs.Reading.{Said, Begins, Ends, words_of, entered, after_said, with_head}
use Rattle.chain_file.specs.Reading.{by_said, no_runs}
use Rattle.chain_file.specs.Walks.{HasHeads}

-- one run more
pub runs_more : (text : List ℕ) (runs : List Run) (run : Run) → with_runs text (runs ++ run ∷ [])
    ≡ with_ended (with_begun (with_runs text runs) run.begun) run.book_digest
unfolding with_runs
runs_more text [] run = refl
runs_more text (first ∷ runs) run =
    runs_more (with_ended (with_begun text first.begun) first.book_digest) runs run

entered_text : (ended : List Run) (last : Option Begun) (said : Said) (now : Chain) →
    entered ended last said ≡ Some now → text_of now
    ≡ with_words (text_of (record { ended = ended; under_way = last })) (words_of said)
unfolding text_of
entered_text ended None (Begins begun) now h =
    ap text_of (sym (same_Some (record { ended = ended; under_way = Some begun }) now h))
entered_text ended None (Ends digest) now h = absurd cc
entered_text ended (Some last) (Begins begun) now h = absurd cc
entered_text ended (Some last) (Ends digest) now h =
    let run : Run = record { begun = last; book_digest = digest } in
    ap text_of (sym (same_Some (record { ended = ended ++ run ∷ []; under_way = None }) now h))
    ∙ runs_more (first_line ++ 10 ∷ []) ended run

-- a line more, in the text of the chain with what it says
pub said_text : (chain : Chain) (said : Said) (now : Chain) → after_said chain said ≡ Some now →
    text_of now ≡ with_words (text_of chain) (words_of said)
said_text chain said now h = entered_text chain.ended chain.under_way said now h

pub line_text : (chain : Chain) (said : Said) (now : Chain) → after_said chain said ≡ Some now →
    text_of now ≡ with_line (text_of chain) (spaced (words_of said))
unfolding with_words
line_text chain said now h = said_text chain said now h

-- the heads behind it
pub heads_more : (chain : Chain) (said : Said) (now : Chain) (heads : Sha256) (due : List ℕ) →
    IsChain now → after_said chain said ≡ Some now →
    due ≡ head_of (text_of chain ++ spaced (words_of said)) →
    Holds256 heads (with_line (text_of chain) (spaced (words_of said))) →
    HasHeads heads (Some due) now
heads_more chain said now heads due known after due_is taken =
    let before = text_of chain ++ spaced (words_of said) in record {
      holds = subst (Holds256 heads) (sym (line_text chain said now after)) taken;
      last = record {
        before = before;
        is = line_text chain said now after
            ∙ ap (λ (h : List ℕ). before ++ (h ++ 10 ∷ [])) (sym due_is);
        due = due_is;
      };
      known = known;
    }

pub no_runs_text : text_of no_runs ≡ codes "chain 1" ++ 10 ∷ []
unfolding text_of with_runs
no_runs_text = refl

---- What is answered.

pub good_head : (chain now : Chain) (number : ℕ) (said : Said) (head due : List ℕ) →
    after_said chain said ≡ Some now →
    due ≡ head_of (text_of chain ++ spaced (words_of said)) → bytes_eq head due ≡ true →
    by_said chain number (Some (said, head)) ≡ Ok now
good_head chain now number said head due after due_is same =
    ap (λ o. with_head number o head (head_of (text_of chain ++ spaced (words_of said)))) after
    ∙ ap (λ t. if t then Ok now else Err (BadHead number))
    (ap (bytes_eq head) (sym due_is) ∙ same)

pub bad_head : (chain now : Chain) (number : ℕ) (said : Said) (head due : List ℕ) →
    after_said chain said ≡ Some now →
    due ≡ head_of (text_of chain ++ spaced (words_of said)) → bytes_eq head due ≡ false →
    by_said chain number (Some (said, head)) ≡ Err (BadHead number)
bad_head chain now number said head due after due_is other =
    ap (λ o. with_head number o head (head_of (text_of chain ++ spaced (words_of said)))) after
    ∙ ap (λ t. if t then Ok now else Err (BadHead number))
    (ap (bytes_eq head) (sym due_is) ∙ other)

---- In order.

none_of : (last : Option Begun) → false ≡ is_some last → last ≡ None
none_of None h = refl
none_of (Some begun) h = absurd cc

some_of : (last : Option Begun) → true ≡ is_some last → (begun : Begun) × (last ≡ Some begun)
some_of None h = absurd cc
some_of (Some begun) h = (begun, refl)

pub begins_after : (chain : Chain) (begun : Begun) (open_is : Bool) → open_is ≡ is_some chain.under_way →
    open_is ≡ false → after_said chain (Begins begun)
    ≡ Some (record { ended = chain.ended; under_way = Some begun })
begins_after chain begun open_is is closed =
    ap (λ o. entered chain.ended o (Begins begun)) (none_of chain.under_way (sym closed ∙ is))

pub last_of : (chain : Chain) (open_is : Bool) → open_is ≡ is_some chain.under_way →
    open_is ≡ true → (begun : Begun) × (chain.under_way ≡ Some begun)
last_of chain open_is is opened = some_of chain.under_way (sym opened ∙ is)

pub ends_after : (chain : Chain) (digest : List ℕ) (begun : Begun) → chain.under_way ≡ Some begun →
    after_said chain (Ends digest) ≡ Some (record {
      ended = chain.ended ++ (record { begun = begun; book_digest = digest } ∷ []);
      under_way = None;
    })
ends_after chain digest begun last = ap (λ o. entered chain.ended o (Ends digest)) last

---- Heads that were compared.

pub other_head : (head slice due : List ℕ) (differ : Bool) → differ ≡ not (bytes_eq head slice) →
    differ ≡ true → slice ≡ due → bytes_eq head due ≡ false
other_head head slice due differ is h same =
    ap (bytes_eq head) (sym same) ∙ not-true (bytes_eq head slice) (sym is ∙ h)

pub same_head : (head slice due : List ℕ) (differ : Bool) → differ ≡ not (bytes_eq head slice) →
    differ ≡ false → slice ≡ due → bytes_eq head due ≡ true
same_head head slice due differ is h same =
    ap (bytes_eq head) (sym same) ∙ not-false (bytes_eq head slice) (sym is ∙ h)

---- A line that is written.

pub first_heads : (heads : Sha256) → Holds256 heads (codes "chain 1" ++ 10 ∷ []) →
    HasHeads heads None no_runs
first_heads heads holds =
    record {
      holds = subst (Holds256 heads) (sym no_runs_text) holds;
      last = refl;
      known = record { ended = All-nil IsRun; under_way = tt };
    }

pub heads_line : (chain : Chain) (said : Said) (now : Chain) (heads : Sha256)
    (due words : List ℕ) → IsChain now → after_said chain said ≡ Some now → words ≡ spaced (words_of said) →
    due ≡ head_of (text_of chain ++ words) → Holds256 heads (with_line (text_of chain) words) →
    HasHeads heads (Some due) now
heads_line chain said now heads due words known after are due_is taken =
    heads_more chain said now heads due known after
    (due_is ∙ ap (λ (w : List ℕ). head_of (text_of chain ++ w)) are)
    (subst (λ (w : List ℕ). Holds256 heads (with_line (text_of chain) w)) are taken)

pub text_line : (chain : Chain) (said : Said) (now : Chain) (due words line : List ℕ) →
    after_said chain said ≡ Some now → words ≡ spaced (words_of said) →
    due ≡ head_of (text_of chain ++ words) → line ≡ words ++ (due ++ 10 ∷ []) →
    text_of now ≡ text_of chain ++ line
text_line chain said now due words line after are due_is line_is =
    line_text chain said now after
    ∙ ap (λ (w : List ℕ). with_line (text_of chain) w) (sym are)
    ∙ ap (λ (h : List ℕ). (text_of chain ++ words) ++ (h ++ 10 ∷ [])) (sym due_is)
    ∙ append_assoc (text_of chain) words (due ++ 10 ∷ [])
    ∙ ap (λ (l : List ℕ). text_of chain ++ l) (sym line_is)

pub same_chain : (one other : Chain) → one.ended ≡ other.ended →
    one.under_way ≡ other.under_way → one ≡ other
same_chain one other runs last = λ i. record { ended = runs i; under_way = last i }
