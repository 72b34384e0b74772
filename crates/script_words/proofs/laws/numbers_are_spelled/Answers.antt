use Rattle.std.proofs.Common.{◌<◌, ◌≡◌, ◌^◌, Some, decimal, arith, ap, ◌∙◌}
use Rattle.script_words.specs.Spelling.{numeral, hex_byte}
use Rattle.script_words.proofs.SaidNumbers.{decimal-numeral, hex_text-byte}
use Rattle.script_words.proofs.SpelledNumbers.{numeral-decimal, hex_byte-text}
use Rattle.script_words.proofs.laws.numbers_are_spelled.Goals as goal

pub returns-clause-number : goal.returns-clause-number
returns-clause-number c = λ w n lt. (λ h. decimal-numeral w n h lt, λ h. ap numeral h ∙ numeral-decimal n (omega arith))

pub returns-clause-byte : goal.returns-clause-byte
returns-clause-byte c = λ w v lt. (λ h. hex_text-byte w v h, λ h. ap hex_byte h ∙ hex_byte-text v lt)
