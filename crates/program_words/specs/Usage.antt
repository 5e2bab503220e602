-- What tells how the program is used.
use Rattle.std.specs.Prelude.{codes, Option, Some, None, if◌then◌else◌}
use Rattle.std.specs.Str.{bytes_eq}
use Rattle.clap.specs.Words.{Text}
use Rattle.program_words.specs.declared.usage.TheConstants.{PROGRAM, REPLAY, RUN, AUDIT, SERVE}
use Rattle.program_words.specs.declared.usage.TheConstants.{SEAL, CHECK, REPORT, USAGE}
use Rattle.program_words.specs.declared.usage.TheConstants.{TELL_VERSION}

-- the usage of the command of this name
abbrev pub command_usage : Text → Option Text
command_usage name =
    if bytes_eq name (codes "replay") then Some REPLAY.now
    else if bytes_eq name (codes "run") then Some RUN.now
    else if bytes_eq name (codes "audit") then Some AUDIT.now
    else if bytes_eq name (codes "serve") then Some SERVE.now
    else if bytes_eq name (codes "seal") then Some SEAL.now
    else if bytes_eq name (codes "check") then Some CHECK.now
    else if bytes_eq name (codes "report") then Some REPORT.now
    else if bytes_eq name (codes "usage") then Some USAGE.now
    else if bytes_eq name (codes "version") then Some TELL_VERSION.now
    else None

-- that of the program, or of one of its commands
abbrev pub usage_of : Option Text → Option Text
usage_of None = Some PROGRAM.now
usage_of (Some name) = command_usage name
