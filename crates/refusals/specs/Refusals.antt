-- The numbers of the refusals (documents 01 and 02).
use Rattle.std.specs.Prelude.{ℕ}
use Rattle.refusals.specs.declared.Refusal.{Refusal}
use Rattle.refusals.specs.declared.Refused.{Refused}
use Rattle.refusals.specs.declared.Refusal.TheVariants.{EndsEarly, UnknownKind, ForeignField, ZeroWritten, OutOfRange, TooManyRecords, TooDeep, LeftOver, Allowance, WorkMemory, UnknownAlias, UnboundVariable, AliasAsVariable, RangeEndBelowStart, LiteralTooLong, LiteralWidth, CidrPrefix, CidrAddress, WildcardWidth, IpRangeWidth, IpRangeOrder, NegatedNonTest, ConditionNotTest, AllowanceSpent, FieldCount, BufferTooShort, ResultTooLarge, SubrangeOutside, ReplacementEndsEarly, ReplacementUnknownKind, ReplacementForeignField, ReplacementZeroWritten, ReplacementOutOfRange, ReplacementTooManyRecords, ReplacementTooDeep, ReplacementLeftOver, TermKind, CoreTooLarge, CoreNotTest, PacketCount, PacketTooShort}

-- "A call answers success or a refusal number with a place."
abbrev pub number_of : Refusal → ℕ
number_of EndsEarly = 1
number_of UnknownKind = 2
number_of ForeignField = 3
number_of ZeroWritten = 4
number_of OutOfRange = 5
number_of TooManyRecords = 6
number_of TooDeep = 7
number_of LeftOver = 8
number_of Allowance = 9
number_of WorkMemory = 10
number_of UnknownAlias = 11
number_of UnboundVariable = 12
number_of AliasAsVariable = 13
number_of RangeEndBelowStart = 14
number_of LiteralTooLong = 15
number_of LiteralWidth = 16
number_of CidrPrefix = 17
number_of CidrAddress = 18
number_of WildcardWidth = 19
number_of IpRangeWidth = 20
number_of IpRangeOrder = 21
number_of NegatedNonTest = 22
number_of ConditionNotTest = 23
number_of AllowanceSpent = 24
number_of FieldCount = 25
number_of BufferTooShort = 26
number_of ResultTooLarge = 27
number_of SubrangeOutside = 28
number_of ReplacementEndsEarly = 31
number_of ReplacementUnknownKind = 32
number_of ReplacementForeignField = 33
number_of ReplacementZeroWritten = 34
number_of ReplacementOutOfRange = 35
number_of ReplacementTooManyRecords = 36
number_of ReplacementTooDeep = 37
number_of ReplacementLeftOver = 38
number_of TermKind = 41
number_of CoreTooLarge = 42
number_of CoreNotTest = 48
number_of PacketCount = 49
number_of PacketTooShort = 50

-- a refusal at a place
abbrev pub refused_at : Refusal → ℕ → Refused
refused_at r at = record { refusal = r; place = at }
