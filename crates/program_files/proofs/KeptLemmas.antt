-- Calls behind calls that moved no bytes.
use Rattle.std.proofs.Common.{ℕ, List, Option, None, Some, Result, Ok, Err, subst}
use Rattle.std.specs.Io.KnownBytes.{Keeps, ReadConsumes, WriteAppends}

-- what is read behind reads that consumed nothing is all that was read
pub read_after_kept : {E : Type 0} (a b c : Option (List ℕ)) (result : Result ℕ E)
    (given : List ℕ) → Keeps a b → ReadConsumes b c result given → ReadConsumes a c result given
read_after_kept None b c (Ok n) given kept so = (tt, so.1)
read_after_kept None b c (Err e) given kept so = tt
read_after_kept (Some x) None c result given kept so = absurd kept
read_after_kept (Some x) (Some y) c result given kept so =
    subst (λ z. ReadConsumes (Some z) c result given) kept so

-- what is written behind writes that took nothing is all that was written
pub write_after_kept : {E : Type 0} (a b c : Option (List ℕ)) (result : Result ℕ E)
    (given : List ℕ) → Keeps a b → WriteAppends b c result given → WriteAppends a c result given
write_after_kept None b c (Ok n) given kept so = tt
write_after_kept None b c (Err e) given kept so = tt
write_after_kept (Some x) None c result given kept so = absurd kept
write_after_kept (Some x) (Some y) c result given kept so =
    subst (λ z. WriteAppends (Some z) c result given) kept so

-- what is kept at first and then is kept
pub kept_after_kept : (a b c : Option (List ℕ)) → Keeps a b → Keeps b c → Keeps a c
kept_after_kept None b c first then = tt
kept_after_kept (Some x) None c first then = absurd first
kept_after_kept (Some x) (Some y) c first then = subst (λ z. Keeps (Some z) c) first then
