-- What a run does to its source and its sinks.
use Rattle.std.specs.Prelude.{◌≡◌, ◌≢◌, ◌⊎◌, ℕ, ◌<◌, ◌≤◌, List, [], ◌∷◌, ◌++◌, codes, length, Option, Some, None, Result, Ok, Err, string_bytes}
use Rattle.std.specs.Io.KnownBytes.{IsAtEnd}
use Rattle.ports.specs.Causes.{Rose}
use Rattle.ports.specs.Streams.{Gives, GivesSome, GivesCount, Takes, TakesPrefix}
use Rattle.spv_words.specs.declared.words.Order.{Order}
use Rattle.spv_codec.specs.Framing.{IsFramingFault}
use Rattle.kt_driver.specs.BinaryListings.{IsBinaryListing}
use Rattle.kt_driver.specs.Listings.{IsListing, IsListingFault}
use Rattle.ll_texts.specs.TextFaults.{IsModuleInput, IsTextFault}
use Rattle.kernel_translation.specs.Translations.{IsOutside, IsUndefinedIn}
use Rattle.kernel_translation.specs.TextTranslations.{IsInvalidBinary, IsOutsideBinary, IsTextTranslationAndBack, IsTranslationAndBack}
use Rattle.kt_driver.specs.Requests.{input_format}
use Rattle.kt_driver.specs.Refusals.{refusal_line}
use Rattle.kt_driver.specs.declared.refusals.Refusal.{Refusal}
use Rattle.kt_driver.specs.declared.refusals.Refusal.TheVariants.{TooLong, UndefinedName, Outside, Unreadable, Misframed, Invalid}
use Rattle.kt_driver.specs.declared.reply.Reply.{Reply}
use Rattle.kt_driver.specs.declared.reply.Reply.TheVariants.{Answer, Refuses}
use Rattle.kt_driver.specs.declared.reply.ReplyError.{ReplyError}
use Rattle.kt_driver.specs.declared.reply.ReplyError.TheVariants.{NoMemory, ReadFault}
use Rattle.kt_driver.specs.declared.request.Format.{Format}
use Rattle.kt_driver.specs.declared.request.Format.TheVariants.{Llvm, Spirv}
use Rattle.kt_driver.specs.declared.request.Request.{Request}
use Rattle.kt_driver.specs.declared.request.Request.TheVariants.{Translate, Show}

-- the line that tells how the words of a command line begin, with its line feed
abbrev pub usage_line : List ℕ
usage_line = codes "usage: spirv_tool translate|check|show|replay|sample [options]" ++ 10 ∷ []

-- the bytes list the parts of an input of this format
abbrev pub IsListed : Format → List ℕ → List ℕ → Type 0
IsListed Llvm input bytes = IsListing input bytes
IsListed Spirv input bytes = IsBinaryListing input bytes

-- the bytes that answer a request on an input
abbrev pub IsAnswer : Request → List ℕ → List ℕ → Type 0
IsAnswer (Translate Llvm to order) input bytes = IsTranslationAndBack order input bytes
IsAnswer (Translate Spirv to order) input bytes = IsTextTranslationAndBack input bytes
IsAnswer (Show from) input bytes = IsListed from input bytes

-- the refusals that a translation into this order may meet in a text that is not too long
abbrev pub IsUntranslatable : Order → List ℕ → Refusal → Type 0
IsUntranslatable order input (TooLong format) = ⊥
IsUntranslatable order input (UndefinedName byte) = IsUndefinedIn input byte
IsUntranslatable order input (Outside Llvm) = IsModuleInput input × IsOutside order input
IsUntranslatable order input (Outside Spirv) = ⊥
IsUntranslatable order input (Unreadable fault) = IsTextFault input fault
IsUntranslatable order input (Misframed fault) = ⊥
IsUntranslatable order input (Invalid fault) = ⊥

-- the refusals that the translation of a binary may meet in one that is not too long
abbrev pub IsUntranslatableBinary : List ℕ → Refusal → Type 0
IsUntranslatableBinary input (TooLong format) = ⊥
IsUntranslatableBinary input (UndefinedName byte) = ⊥
IsUntranslatableBinary input (Outside Llvm) = ⊥
IsUntranslatableBinary input (Outside Spirv) = IsOutsideBinary input
IsUntranslatableBinary input (Unreadable fault) = ⊥
IsUntranslatableBinary input (Misframed fault) = IsFramingFault input fault
IsUntranslatableBinary input (Invalid fault) = IsInvalidBinary input fault

-- the refusals that a listing may meet in an input of this format that is not too long
abbrev pub IsUnlisted : Format → List ℕ → Refusal → Type 0
IsUnlisted format input (TooLong other) = ⊥
IsUnlisted format input (UndefinedName byte) = ⊥
IsUnlisted format input (Outside other) = ⊥
IsUnlisted Llvm input (Unreadable fault) = IsListingFault input fault
IsUnlisted Spirv input (Unreadable fault) = ⊥
IsUnlisted Llvm input (Misframed fault) = ⊥
IsUnlisted Spirv input (Misframed fault) = IsFramingFault input fault
IsUnlisted format input (Invalid fault) = ⊥

-- the refusals that a request may meet in an input that is not too long
abbrev pub IsDue : Request → List ℕ → Refusal → Type 0
IsDue (Translate Llvm to order) input refusal = IsUntranslatable order input refusal
IsDue (Translate Spirv to order) input refusal = IsUntranslatableBinary input refusal
IsDue (Show from) input refusal = IsUnlisted from input refusal

-- the source was read to its end, and gave this input, of no more bytes than an input may have
pub record ReadsWhole (input : List ℕ) (old new : Option (List ℕ)) : Type 0 where
  pub within : length input ≤ 16777216
  pub gives : Gives old new input
  pub at_end : IsAtEnd new

-- the source was read to its end, and gave an input that is refused so
pub record ReadsRefused (request : Request) (refusal : Refusal) (old new : Option (List ℕ)) : Type 0 where
  pub input : List ℕ
  pub reads : ReadsWhole input old new
  pub due : IsDue request input refusal

-- what is read for a refusal: one byte beyond the limit where the input is too long, else all of an input that is refused so
abbrev pub ReadsFor : Request → Refusal → Option (List ℕ) → Option (List ℕ) → Type 0
ReadsFor request (TooLong format) old new = (format ≡ input_format request) × GivesCount 16777217 old new
ReadsFor request (UndefinedName byte) old new = ReadsRefused request (UndefinedName byte) old new
ReadsFor request (Outside format) old new = ReadsRefused request (Outside format) old new
ReadsFor request (Unreadable fault) old new = ReadsRefused request (Unreadable fault) old new
ReadsFor request (Misframed fault) old new = ReadsRefused request (Misframed fault) old new
ReadsFor request (Invalid fault) old new = ReadsRefused request (Invalid fault) old new

-- the source was read to its end, and these bytes answer the request on the input that it gave
pub record ReadsAnswered (request : Request) (bytes : List ℕ) (old new : Option (List ℕ)) : Type 0 where
  pub input : List ℕ
  pub reads : ReadsWhole input old new
  pub answer : IsAnswer request input bytes

-- what a reply says, and how far the source was read for it
abbrev pub Replies : Request → Option (List ℕ) → Option (List ℕ) → Result Reply ReplyError → Type 0
Replies request old new (Ok (Answer bytes)) = ReadsAnswered request bytes.items old new
Replies request old new (Ok (Refuses refusal line)) =
    (string_bytes line ≡ refusal_line refusal) × ReadsFor request refusal old new
Replies request old new (Err error) = GivesSome old new

-- the reply that tells this refusal, or want of memory
abbrev pub IsRefusal : Refusal → Result Reply ReplyError → Type 0
IsRefusal refusal (Ok (Answer bytes)) = ⊥
IsRefusal refusal (Ok (Refuses other line)) = (other ≡ refusal) × (string_bytes line ≡ refusal_line refusal)
IsRefusal refusal (Err error) = error ≡ NoMemory

-- the reply that a request is due on an input, or want of memory
abbrev pub IsReply : Request → List ℕ → Result Reply ReplyError → Type 0
IsReply request input (Ok (Answer bytes)) = IsAnswer request input bytes.items
IsReply request input (Ok (Refuses refusal line)) =
    (string_bytes line ≡ refusal_line refusal) × IsDue request input refusal
IsReply request input (Err error) = error ≡ NoMemory

-- the count of faults never falls, it has risen where the answer is that the source failed, and stays at every other answer
pub record ReplyHasCause (before now : ℕ) (result : Result Reply ReplyError) : Type 0 where
  pub later : before ≤ now
  pub kept : result ≢ Err ReadFault → now ≡ before
  pub failed : result ≡ Err ReadFault → Rose before now

-- a refusal of the request was told, and the source was read as far as that refusal wants
pub record TellsRefusal (request : Option Request) (left_old left_new held_old held_new : Option (List ℕ)) : Type 0 where
  pub asked : Request
  pub is_asked : request ≡ Some asked
  pub refusal : Refusal
  pub told : Takes held_old held_new (refusal_line refusal)
  pub read : ReadsFor asked refusal left_old left_new

-- the answer to the request was written
pub record TakesAnswer (request : Option Request) (left_old left_new held_old held_new : Option (List ℕ)) : Type 0 where
  pub asked : Request
  pub is_asked : request ≡ Some asked
  pub bytes : List ℕ
  pub read : ReadsAnswered asked bytes left_old left_new
  pub takes : Takes held_old held_new bytes

-- the text that a run tells: the usage line where the words make no request, else the line of a refusal
abbrev pub IsToldText : Option Request → Option (List ℕ) → Option (List ℕ) → List ℕ → Type 0
IsToldText None left_old left_new text = text ≡ usage_line
IsToldText (Some request) left_old left_new text =
    (refusal : Refusal) × (text ≡ refusal_line refusal) × ReadsFor request refusal left_old left_new

-- a prefix of the text that a run tells was written, and a write failed
pub record FailsToTell (request : Option Request) (left_old left_new held_old held_new : Option (List ℕ)) (faults_old faults_new : ℕ) : Type 0 where
  pub text : List ℕ
  pub due : IsToldText request left_old left_new text
  pub takes : TakesPrefix held_old held_new text
  pub rose : Rose faults_old faults_new

-- a prefix of the answer to the request was written, and a write failed
pub record FailsToAnswer (request : Option Request) (left_old left_new held_old held_new : Option (List ℕ)) (faults_old faults_new : ℕ) : Type 0 where
  pub asked : Request
  pub is_asked : request ≡ Some asked
  pub bytes : List ℕ
  pub read : ReadsAnswered asked bytes left_old left_new
  pub takes : TakesPrefix held_old held_new bytes
  pub rose : Rose faults_old faults_new

-- the words make a request, and nothing in this input is refused for it
abbrev pub IsFree : Option Request → List ℕ → Type 0
IsFree None input = ⊥
IsFree (Some request) input = (length input ≤ 16777216) × ((refusal : Refusal) → IsDue request input refusal → ⊥)

-- the words make a request for which this is refused in the input
abbrev pub IsRefusedFor : Option Request → List ℕ → Refusal → Type 0
IsRefusedFor None input refusal = ⊥
IsRefusedFor (Some request) input refusal =
    ((length input ≤ 16777216) × IsDue request input refusal) ⊎ ((16777216 < length input) × (refusal ≡ TooLong (input_format request)))
