-- What is read has the form of a book's entries.
use Rattle.std.proofs.Common.{◌≡◌, ℕ, Bool, true, Option}
use Rattle.std.proofs.lemmas.Bool.{and_from}
use Rattle.wall_labels.specs.declared.label.Label.{Label}
use Rattle.coll_routes.specs.declared.signature.Signature.{Signature}
use Rattle.coll_routes.specs.declared.statement.Own.{Own}
use Rattle.coll_routes.specs.Signatures.{kind}
use Rattle.run_model.specs.declared.entry.Entry.TheVariants.{Posted}
use Rattle.run_model.specs.EntryForms.{is_formed, HasForm}
use Rattle.coll_routes.specs.Owns.{is_own_of}
use Rattle.run_model.specs.Books.{is_labelled_as}

formed : (sig : Signature) (own : Own) → is_own_of (kind sig) own ≡ true → is_formed sig own ≡ true
unfolding is_formed
formed sig own h = h

pub post_form :
    (p c : ℕ) (sig : Signature) (own : Own) (given : ℕ) (label : Option Label) (barred : Bool) →
    is_own_of (kind sig) own ≡ true → is_labelled_as given label ≡ true
    →
    HasForm (Posted p c
    (record { sig = sig; own = own; given = given; label = label; barred = barred }))
post_form p c sig own given label barred h l =
    and_from (is_formed sig own) (is_labelled_as given label) (formed sig own h) l
