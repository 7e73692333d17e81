-- The numbers of causes and layers, and a fault by its numbers. Assumes nothing.
use Rattle.std.specs.Prelude.{ℕ, None, Ok, Err, Option, Result}
use Rattle.awd_fault.specs.declared.Cause.{Cause}
use Rattle.awd_fault.specs.declared.Cause.TheVariants as cause
use Rattle.awd_fault.specs.declared.Layer.{Layer}
use Rattle.awd_fault.specs.declared.Layer.TheVariants as layer
use Rattle.awd_fault.specs.declared.Fault.{Fault}

abbrev pub cause_number : Cause → ℕ
cause_number cause.AlreadyOpen = 1
cause_number cause.HeaderTooShort = 2
cause_number cause.DocumentTooLong = 3
cause_number cause.WrongMagic = 4
cause_number cause.WrongVersion = 5
cause_number cause.CompressedDocument = 6
cause_number cause.WrongBodyLength = 7
cause_number cause.NotOpen = 8
cause_number cause.TooManyBlocks = 9
cause_number cause.DoesNotFit = 10
cause_number cause.IdOutOfSequence = 11
cause_number cause.CompressedBlock = 12
cause_number cause.ValueNotAllowed = 13
cause_number cause.AddressNotLawful = 14
cause_number cause.BytesLeftOver = 15
cause_number cause.IndexTooLarge = 16
cause_number cause.StreamOutOfPlace = 17
cause_number cause.NoSuchBlock = 18
cause_number cause.NoSuchField = 19
cause_number cause.TooManyEdits = 20
cause_number cause.NoSuchMaterial = 21
cause_number cause.NoSuchCell = 22
cause_number cause.WrongWidth = 23
cause_number cause.NotANumber = 24
cause_number cause.NothingToUndo = 25
cause_number cause.BufferTooShort = 26
cause_number cause.LengthOverPages = 27
cause_number cause.PageOutsideRun = 28

abbrev pub layer_number : Layer → ℕ
layer_number layer.DocumentHeader = 0
layer_number layer.BlockHeader = 1
layer_number layer.BodyField = 2
layer_number layer.Entry = 3
layer_number layer.Call = 4

-- a fault by its numbers, as definitions give it
pub record Report : Type 0 where
  pub cause : ℕ
  pub place : ℕ
  pub block : ℕ
  pub layer : ℕ
  pub index : Option ℕ

-- what a fault says
abbrev pub report : Fault → Report
report f =
    record { cause = cause_number f.cause; place = f.place; block = f.block; layer = layer_number f.layer; index = f.index }

-- what a result says: its value, or its fault by numbers
abbrev pub answer : {A : Type 0} → Result A Fault → Result A Report
answer (Ok x) = Ok x
answer (Err f) = Err (report f)

-- a fault of the document header
abbrev pub in_header : ℕ → ℕ → Report
in_header cause place = record { cause = cause; place = place; block = 0; layer = 0; index = None }

-- a fault of a call
abbrev pub of_call : ℕ → ℕ → ℕ → Report
of_call cause place block = record { cause = cause; place = place; block = block; layer = 4; index = None }
