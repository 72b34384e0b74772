use Rattle.wal_store.proofs.Spelled.{decode-encode, decode-read, decode-iff, key-few, value-few, length-spelled}
use Rattle.wal_store.proofs.laws.puts_are_read_back.Goals as goal

pub returns-clause-written : goal.returns-clause-written
returns-clause-written c = decode-encode

pub returns-clause-read : goal.returns-clause-read
returns-clause-read c = λ b n p. (decode-read b n p, decode-iff b n p)

pub returns-clause-size : goal.returns-clause-size
returns-clause-size c = λ n p is. length-spelled n p.key p.value (key-few p.key is.key) (value-few p.value is.value)
