-- Which deeds are allowed where.
use Rattle.std.proofs.Common.{◌≡◌, ℕ, ◌==◌, ◌&&◌, Bool, true, false, refl}
use Rattle.spk_server.specs.Data.{Deed, Why, Timed, Joined, Fed, Skipped, Took, Came, Broke, Left, Ticked, Handed, Shut, Told, Cut, Tried, Waited, Freed, Dropped, Wrote, Blocked, Named, Forgot, Kept, Begun}
use Rattle.spk_server.specs.Log.{calls, follows, goes_on, is_want, takes}

no : {A : Type 0} → false ≡ true → A
no e = cc

pub follows_takes : (conn : ℕ) (d : Deed) → follows d ≡ true → takes conn d ≡ true
follows_takes conn (Handed o f) e = refl
follows_takes conn (Shut c) e = refl
follows_takes conn (Told c s) e = refl
follows_takes conn (Cut c s) e = refl
follows_takes conn Ticked e = refl
follows_takes conn (Timed m) e = no e
follows_takes conn (Joined c) e = no e
follows_takes conn (Fed c p) e = no e
follows_takes conn (Skipped c p) e = no e
follows_takes conn (Took c p rest) e = no e
follows_takes conn Came e = refl
follows_takes conn (Broke c f) e = no e
follows_takes conn (Left c w) e = no e
follows_takes conn Tried e = refl
follows_takes conn (Waited c) e = no e
follows_takes conn (Freed c) e = no e
follows_takes conn (Dropped c) e = no e
follows_takes conn (Wrote c n) e = no e
follows_takes conn (Blocked c) e = no e
follows_takes conn (Named c) e = no e
follows_takes conn (Kept b) e = no e
follows_takes conn Begun e = no e
follows_takes conn (Forgot c) e = no e

pub follows_calls : (d : Deed) → follows d ≡ true → calls d ≡ true
follows_calls (Handed o f) e = refl
follows_calls (Shut c) e = refl
follows_calls (Told c s) e = refl
follows_calls (Cut c s) e = refl
follows_calls Ticked e = refl
follows_calls (Timed m) e = no e
follows_calls (Joined c) e = no e
follows_calls (Fed c p) e = no e
follows_calls (Skipped c p) e = no e
follows_calls (Took c p rest) e = no e
follows_calls Came e = no e
follows_calls (Broke c f) e = no e
follows_calls (Left c w) e = no e
follows_calls Tried e = no e
follows_calls (Waited c) e = no e
follows_calls (Freed c) e = no e
follows_calls (Dropped c) e = refl
follows_calls (Wrote c n) e = no e
follows_calls (Blocked c) e = no e
follows_calls (Named c) e = no e
follows_calls (Kept b) e = no e
follows_calls Begun e = no e
follows_calls (Forgot c) e = no e

-- whatever takes the packets of a client goes on
want_of_both : (b : Bool) (w : Why) → (b && is_want w) ≡ true → is_want w ≡ true
want_of_both true w e = e
want_of_both false w e = no e

pub takes_goes_on : (conn : ℕ) (d : Deed) → takes conn d ≡ true → goes_on d ≡ true
takes_goes_on conn (Handed o f) e = refl
takes_goes_on conn (Shut c) e = refl
takes_goes_on conn (Told c s) e = refl
takes_goes_on conn (Cut c s) e = refl
takes_goes_on conn Ticked e = refl
takes_goes_on conn (Timed m) e = no e
takes_goes_on conn (Joined c) e = no e
takes_goes_on conn (Fed c p) e = no e
takes_goes_on conn (Skipped c p) e = no e
takes_goes_on conn (Took c p rest) e = refl
takes_goes_on conn Came e = refl
takes_goes_on conn (Broke c f) e = refl
takes_goes_on conn (Left c w) e = want_of_both (c == conn) w e
takes_goes_on conn Tried e = refl
takes_goes_on conn (Waited c) e = refl
takes_goes_on conn (Freed c) e = refl
takes_goes_on conn (Dropped c) e = no e
takes_goes_on conn (Wrote c n) e = no e
takes_goes_on conn (Blocked c) e = no e
takes_goes_on conn (Named c) e = no e
takes_goes_on conn (Kept b) e = no e
takes_goes_on conn Begun e = no e
takes_goes_on conn (Forgot c) e = no e
