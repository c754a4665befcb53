-- What contracts see of the crate's types.
use Rattle.std.specs.Prelude.{◌≡◌, ℕ, List, [], map, Option, Some, None, slice_get}
use Rattle.std.specs.Option.{option_map, option_map_or}
use Rattle.std.specs.String.{string_bytes}
use Rattle.spk_access.specs.Rights.{RightsData, rights_view}
use Rattle.spk_door.specs.Data.{DoorData, EntryData, UserData, VerdictData, Comes, Refused, Passes, Cuts, Closes}
use Rattle.spk_door.specs.declared.door.Door.{Door}
use Rattle.spk_door.specs.declared.door.Entry.{Entry}
use Rattle.spk_door.specs.declared.door.Entry.TheVariants as entry
use Rattle.spk_door.specs.declared.door.Login.{Login}
use Rattle.spk_door.specs.declared.door.User.{User}
use Rattle.spk_door.specs.declared.door.Who.{Who}
use Rattle.spk_door.specs.declared.door.Who.TheVariants as who
use Rattle.spk_door.specs.declared.verdict.Verdict.{Verdict}
use Rattle.spk_door.specs.declared.verdict.Verdict.TheVariants as verdict

abbrev pub user_view : User → UserData
user_view u = record { name = string_bytes u.name; salt = u.salt.items; rounds = u.rounds; key = u.key; rights = rights_view u.rights }

abbrev pub door_view : Door → DoorData
door_view d = record { users = option_map (λ v. map user_view v.items) d.users; guard = d.guard }

abbrev pub login_view : Login → List ℕ × List ℕ
login_view l = (l.user.now, l.password.now)

abbrev pub users_of : Door → List UserData
users_of d = option_map_or (λ v. map user_view v.items) d.users []

-- what somebody who came in may do; none where no user of this number is there
abbrev pub rights_of : Door → Who → Option RightsData
rights_of d (who.User place) = option_map (λ (u : UserData). u.rights) (slice_get (users_of d) place)
rights_of d (who.Client rights) = Some (rights_view rights)

-- the name of the user as which somebody came in; none of a client without a user
abbrev pub user_of : Door → Who → Option (List ℕ)
user_of d (who.User place) = option_map (λ (u : UserData). u.name) (slice_get (users_of d) place)
user_of d (who.Client rights) = None

-- an answer is that of the rules
abbrev pub Answers : Door → Entry → EntryData → Type 0
Answers d (entry.In w) (Comes user rights) = (rights_of d w ≡ Some rights) × (user_of d w ≡ user)
Answers d (entry.In w) (Refused code) = ⊥
Answers d (entry.Refused code) (Comes user rights) = ⊥
Answers d (entry.Refused code) (Refused right) = code ≡ right

abbrev pub verdict_view : Verdict → VerdictData
verdict_view verdict.Pass = Passes
verdict_view (verdict.Cut allowed) = Cuts allowed.items
verdict_view verdict.Close = Closes
