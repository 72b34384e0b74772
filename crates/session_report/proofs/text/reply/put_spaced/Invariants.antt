use Rattle.std.proofs.Common.{◌≡◌, ◌++◌, drop}
use Rattle.std.specs.String.{string_bytes}
use Rattle.session_report.specs.text.Replies.{spaced}
use Rattle.session_report.proofs.text.reply.put_spaced.Given as goal

abbrev pub invariant-loop-name : goal.invariant-loop-name
invariant-loop-name l = string_bytes l.out ++ spaced (drop l.name-index l.names) ≡ string_bytes l.fn.out ++ spaced l.names
