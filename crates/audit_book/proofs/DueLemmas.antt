-- What is due behind right entries makes a sound book of them.
use Rattle.std.proofs.Common.{◌≡◌, List, [], refl, sym, subst, Option, Some, None}
use Rattle.std.specs.Option.{option_map, option_to_list}
use Rattle.wall_policy.specs.Policy.{ChineseWall}
use Rattle.run_model.specs.declared.entry.Entry.{Entry}
use Rattle.run_model.specs.Books.{posts_in, IsSound}
use Rattle.run_model.proofs.RunModelLemmas.{book_is_sound}
use Rattle.run_state.specs.Views.{PostStateValue}
use Rattle.audit_book.specs.declared.due.Due.{Due}
use Rattle.audit_book.specs.declared.check_fault.BookFault.{BookFault}
use Rattle.audit_book.specs.declared.check_fault.BookFault.TheVariants.{BadEntry, NoMemory}
use Rattle.audit_book.specs.Checks.{entry_of, IsRight, IsFaultOf}
use Rattle.audit_book.specs.Dues.{IsDueBehind, IsFaultWithin}

no_post : (due : Option Due) → posts_in (option_to_list (option_map entry_of due)) ≡ []
no_post None = refl
no_post (Some due) = refl

pub right_is_due : (wall : ChineseWall) (post_state : PostStateValue (Unit {0}))
    (entries : List Entry) (due : Option Due) (told : Option Entry) →
    told ≡ option_map entry_of due → IsRight wall post_state entries due →
    IsDueBehind wall entries told
right_is_due wall post_state entries due told same right =
    subst (IsDueBehind wall entries) (sym same) (record {
      sound = subst (IsSound wall) (sym right.given)
          (book_is_sound wall (posts_in entries) right.posts);
      no_post = no_post due;
    })

pub within_fault : (wall : ChineseWall) (entries : List Entry) (fault : BookFault) →
    IsFaultWithin wall entries fault → IsFaultOf wall entries fault
within_fault wall entries (BadEntry n) h = h.0
within_fault wall entries NoMemory h = tt
