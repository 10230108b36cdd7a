-- The columns that the values of a field are stored in
-- (RNTuple Binary Format Specification 1.0.0.0, sections Column Description and Mapping of C++ Types to Fields and Columns).
use Rattle.std.specs.Prelude.{ℕ, Bool, List, [], ◌∷◌, ◌==◌, if◌then◌else◌}
use Rattle.nt_types.specs.ShapeData.{ShapeData, bool, char, byte, int, text, list, maybe, fields, tuple, choice}
use Rattle.nt_types.specs.declared.column_type.ColumnType.{ColumnType}
use Rattle.nt_types.specs.declared.column_type.ColumnType.TheVariants.{Bit, Byte, Char, Int8, UInt8, Int16, UInt16, Int32, UInt32, Int64}
use Rattle.nt_types.specs.declared.column_type.ColumnType.TheVariants.{UInt64, Index64, Switch, SplitInt16, SplitUInt16, SplitInt32}
use Rattle.nt_types.specs.declared.column_type.ColumnType.TheVariants.{SplitUInt32, SplitInt64, SplitUInt64, SplitIndex64}

-- an integer column; plain columns keep the bytes of an element together
abbrev pub int_type : Bool → ℕ → Bool → ColumnType
int_type plain bits signed =
    if bits == 8 then (if signed then Int8 else UInt8)
    else if bits == 16 then (if plain then (if signed then Int16 else UInt16) else (if signed then SplitInt16 else SplitUInt16))
    else if bits == 32 then (if plain then (if signed then Int32 else UInt32) else (if signed then SplitInt32 else SplitUInt32))
    else (if plain then (if signed then Int64 else UInt64) else (if signed then SplitInt64 else SplitUInt64))

-- the ends of collections and texts
abbrev pub index_type : Bool → ColumnType
index_type plain = if plain then Index64 else SplitIndex64

-- the columns of a field, in order; a text has its ends before its bytes
abbrev pub column_types : Bool → ShapeData → List ColumnType
column_types plain bool = Bit ∷ []
column_types plain char = Char ∷ []
column_types plain byte = Byte ∷ []
column_types plain (int bits signed) = int_type plain bits signed ∷ []
column_types plain text = index_type plain ∷ Char ∷ []
column_types plain (list k) = index_type plain ∷ []
column_types plain (maybe k) = index_type plain ∷ []
column_types plain (fields ps) = []
column_types plain (tuple ks) = []
column_types plain (choice ks) = Switch ∷ []
