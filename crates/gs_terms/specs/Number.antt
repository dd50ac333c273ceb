-- The place of each basic type, kind and direction in its list, from 0.
use Rattle.std.specs.Prelude.{ℕ}
use Rattle.gs_terms.specs.declared.kinds.Basic.{Basic}
use Rattle.gs_terms.specs.declared.kinds.Basic.TheVariants as basic
use Rattle.gs_terms.specs.declared.kinds.Kind.{Kind}
use Rattle.gs_terms.specs.declared.kinds.Kind.TheVariants as kind
use Rattle.gs_terms.specs.declared.kinds.Dir.{Dir}
use Rattle.gs_terms.specs.declared.kinds.Dir.TheVariants as dir

abbrev pub basic_number : Basic → ℕ
basic_number basic.Bool = 0
basic_number basic.String = 1
basic_number basic.Int = 2
basic_number basic.Int8 = 3
basic_number basic.Int16 = 4
basic_number basic.Int32 = 5
basic_number basic.Int64 = 6
basic_number basic.Uint = 7
basic_number basic.Uint8 = 8
basic_number basic.Uint16 = 9
basic_number basic.Uint32 = 10
basic_number basic.Uint64 = 11
basic_number basic.Uintptr = 12
basic_number basic.Float32 = 13
basic_number basic.Float64 = 14
basic_number basic.Complex64 = 15
basic_number basic.Complex128 = 16

abbrev pub kind_number : Kind → ℕ
kind_number kind.Bool = 0
kind_number kind.Rune = 1
kind_number kind.Int = 2
kind_number kind.String = 3

abbrev pub dir_number : Dir → ℕ
dir_number dir.Both = 0
dir_number dir.Send = 1
dir_number dir.Receive = 2
