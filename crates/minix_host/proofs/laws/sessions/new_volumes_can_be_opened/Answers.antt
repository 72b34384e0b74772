use Rattle.minix_host.proofs.SessionsKept.{new_opened}
use Rattle.minix_host.proofs.laws.sessions.new_volumes_can_be_opened.Goals as goal

pub returns : goal.returns
returns c = record { opened = λ s new sound root image. new_opened s new (c.new_volumes_are_in_use.ensures s.geometry sound) root image }
