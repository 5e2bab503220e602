-- Which fault a system that has no words to give comes to. (Own rule.)
use Rattle.std.specs.Prelude.{◌≡◌, ◌≢◌}
use Rattle.std.specs.declared.io.ErrorKind.{ErrorKind}
use Rattle.std.specs.declared.io.ErrorKind.TheVariants.{OutOfMemory}
use Rattle.program_words.specs.declared.words.ArgFault.{ArgFault}
use Rattle.program_words.specs.declared.words.ArgFault.TheVariants.{BadArguments, NoMemory}

-- out of memory is told apart from every other cause
abbrev pub IsFaultOf : ErrorKind → ArgFault → Type 0
IsFaultOf kind NoMemory = kind ≡ OutOfMemory
IsFaultOf kind BadArguments = kind ≢ OutOfMemory
