use Rattle.std.proofs.Common.{length}
use Rattle.gs_ask.proofs.map_importer.+find_among.Given as goal

abbrev pub decreases-find_among : goal.decreases-find_among
decreases-find_among l = length l.names.now
