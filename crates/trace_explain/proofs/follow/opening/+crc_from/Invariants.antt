use Rattle.trace_explain.proofs.follow.opening.+crc_from.Given as goal

abbrev pub decreases-crc_from : goal.decreases-crc_from
decreases-crc_from l = l.tds
