-- What the adapters stand for.
use Rattle.std.specs.Prelude.{ℕ}
use Rattle.gs_outside.specs.declared.adapters.ReaderSource.{ReaderSource}
use Rattle.gs_outside.specs.declared.adapters.WriterSink.{WriterSink}

-- the reader of a source, and how many of its calls failed
abbrev pub reader_of : {R : Type 0} → ReaderSource R → R
reader_of s = s.reader

abbrev pub failed_reads_of : {R : Type 0} → ReaderSource R → ℕ
failed_reads_of s = s.faults

-- the writer of a sink, and how many of its calls failed
abbrev pub writer_of : {W : Type 0} → WriterSink W → W
writer_of s = s.writer

abbrev pub failed_writes_of : {W : Type 0} → WriterSink W → ℕ
failed_writes_of s = s.faults
