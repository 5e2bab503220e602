-- When a device that fails at most once fails, and what a writer that expects some bytes notices.
use Rattle.std.specs.Prelude.{ℕ, zero, suc, Bool, true, false, ◌&&◌, List, length, take, drop}
use Rattle.std.specs.Prelude.{if◌then◌else◌}
use Rattle.std.specs.Str.{bytes_eq}
use Rattle.wall_labels.specs.declared.memory.Fuse.{Fuse}
use Rattle.wall_labels.specs.declared.memory.Fuse.TheVariants.{Whole, After, Blown}

-- how often it has failed
abbrev pub failures_of : Fuse → ℕ
failures_of Whole = 0
failures_of (After n) = 0
failures_of Blown = 1

-- the call at hand fails
abbrev pub fails : Fuse → Bool
fails Whole = false
fails (After zero) = true
fails (After (suc n)) = false
fails Blown = false

-- what is left of the fuse after a call
abbrev pub after_call : Fuse → Fuse
after_call Whole = Whole
after_call (After zero) = Blown
after_call (After (suc n)) = After n
after_call Blown = Blown

-- what is expected begins with the bytes
abbrev pub begins : List ℕ → List ℕ → Bool
begins expected bytes = bytes_eq (take (length bytes) expected) bytes

-- whether all was as expected, after these bytes too
abbrev pub notices : Bool → List ℕ → List ℕ → Bool
notices is_same expected bytes = is_same && begins expected bytes

-- what is expected after them
abbrev pub rest_after : List ℕ → List ℕ → List ℕ
rest_after expected bytes = if begins expected bytes then drop (length bytes) expected else expected
