-- The form of a book's entries. (Own rules.)
use Rattle.std.specs.Prelude.{◌≡◌, Bool, true, ◌&&◌}
use Rattle.coll_routes.specs.declared.signature.Signature.{Signature}
use Rattle.coll_routes.specs.declared.statement.Own.{Own}
use Rattle.coll_routes.specs.Signatures.{kind}
use Rattle.coll_routes.specs.Owns.{is_own_of}
use Rattle.run_model.specs.declared.entry.Entry.{Entry}
use Rattle.run_model.specs.declared.entry.Entry.TheVariants.{Posted, Settled}
use Rattle.run_model.specs.Books.{is_labelled}

-- what a member states for itself is what its kind asks
unfoldable pub is_formed : Signature → Own → Bool
is_formed sig own = is_own_of (kind sig) own

-- and a post has a label exactly where it gives an element
abbrev pub has_form : Entry → Bool
has_form (Posted p c stated) = is_formed stated.sig stated.own && is_labelled stated
has_form (Settled c k o) = true

abbrev pub HasForm : Entry → Type 0
HasForm entry = has_form entry ≡ true
