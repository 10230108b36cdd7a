-- The table of column types.
-- RNTuple Binary Format Specification 1.0.0.0, section Column Description.
use Rattle.std.specs.Prelude.{ℕ}
use Rattle.nt_types.specs.declared.column_type.ColumnType.{ColumnType}
use Rattle.nt_types.specs.declared.column_type.ColumnType.TheVariants.{Bit, Byte, Char, Int8, UInt8, Int16, UInt16, Int32, UInt32, Int64}
use Rattle.nt_types.specs.declared.column_type.ColumnType.TheVariants.{UInt64, Index32, Index64, Switch, SplitInt16, SplitUInt16}
use Rattle.nt_types.specs.declared.column_type.ColumnType.TheVariants.{SplitInt32, SplitUInt32, SplitInt64, SplitUInt64, SplitIndex32}
use Rattle.nt_types.specs.declared.column_type.ColumnType.TheVariants.{SplitIndex64}

-- the code of a type, in a column description
abbrev pub code_of : ColumnType → ℕ
code_of Bit = 0x00
code_of Byte = 0x01
code_of Char = 0x02
code_of Int8 = 0x03
code_of UInt8 = 0x04
code_of Int16 = 0x05
code_of UInt16 = 0x06
code_of Int32 = 0x07
code_of UInt32 = 0x08
code_of Int64 = 0x09
code_of UInt64 = 0x0A
code_of Index32 = 0x0E
code_of Index64 = 0x0F
code_of Switch = 0x10
code_of SplitInt16 = 0x11
code_of SplitUInt16 = 0x12
code_of SplitInt32 = 0x13
code_of SplitUInt32 = 0x14
code_of SplitInt64 = 0x15
code_of SplitUInt64 = 0x16
code_of SplitIndex32 = 0x1A
code_of SplitIndex64 = 0x1B

-- the bits of an element
abbrev pub bits_of : ColumnType → ℕ
bits_of Bit = 1
bits_of Byte = 8
bits_of Char = 8
bits_of Int8 = 8
bits_of UInt8 = 8
bits_of Int16 = 16
bits_of UInt16 = 16
bits_of Int32 = 32
bits_of UInt32 = 32
bits_of Int64 = 64
bits_of UInt64 = 64
bits_of Index32 = 32
bits_of Index64 = 64
bits_of Switch = 96
bits_of SplitInt16 = 16
bits_of SplitUInt16 = 16
bits_of SplitInt32 = 32
bits_of SplitUInt32 = 32
bits_of SplitInt64 = 64
bits_of SplitUInt64 = 64
bits_of SplitIndex32 = 32
bits_of SplitIndex64 = 64
