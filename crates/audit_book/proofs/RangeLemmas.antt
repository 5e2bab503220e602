-- A post of a book has a text of its own.
use Rattle.std.proofs.Common.{◌≡◌, ℕ, ◌≤◌, true, sym, subst}
use Rattle.std.proofs.lemmas.Bool.{and_parts}
use Rattle.wall_policy.specs.Policy.{ChineseWall}
use Rattle.coll_routes.specs.declared.signature.Signature.{Signature}
use Rattle.coll_routes.specs.declared.statement.Own.{Own}
use Rattle.coll_routes.specs.declared.statement.Stated.{Stated}
use Rattle.coll_text.specs.Table.{fields_of}
use Rattle.coll_text.specs.Spellings.{Fits, IsSpellable}
use Rattle.run_model.specs.declared.entry.Entry.{Entry}
use Rattle.run_model.specs.declared.entry.Entry.TheVariants.{Posted}
use Rattle.run_model.specs.Books.{is_labelled}
use Rattle.run_model.specs.EntryForms.{is_formed, HasForm}
use Rattle.run_model.specs.Known.{IsKnownEntry}
use Rattle.audit_book.specs.Laws.{IsSpelled}

spellable : (sig : Signature) (own : Own) → Fits (fields_of sig own) → is_formed sig own ≡ true →
    IsSpellable sig own
unfolding is_formed
spellable sig own fits form = record { numbers = fits; form = form }

pub post_is_spelled : (wall : ChineseWall) (e : Entry) (p c : ℕ) (s : Stated) → e ≡ Posted p c s →
    IsKnownEntry wall e → HasForm e → c ≤ 4294967295 → s.given ≤ 4294967295 →
    Fits (fields_of s.sig s.own) → IsSpelled wall e
post_is_spelled wall e p c s is known form comm given fits = subst
    (λ (e : Entry). IsKnownEntry wall e → HasForm e → IsSpelled wall e) (sym is)
    (λ known form. let parts = and_parts (is_formed s.sig s.own) (is_labelled s) form in record {
      process = known.0;
      comm = comm;
      statement = spellable s.sig s.own fits parts.0;
      given = given;
      label = known.1;
      labelled = parts.1;
    }) known form
