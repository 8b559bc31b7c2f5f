-- What is heard if nothing is left of what came before.
use Rattle.std.proofs.Common.{◌≡◌, ◌∙◌, ◌⊎◌, inl, inr, ℕ, Bool, true, false, Option, None, Some, ap, refl, subst, sym}
use Rattle.std.specs.Prelude.{IfSome, Ok, is_some}
use Rattle.std.specs.declared.net.socket_addr.SocketAddr.{SocketAddr}
use Rattle.addresses.specs.Seating.{Hears, SeatBook}
use Rattle.entrance.specs.declared.entrance.Came.{Came}
use Rattle.entrance.specs.declared.entrance.Admitted.{Admitted}
use Rattle.entrance.specs.declared.entrance.Admitted.TheVariants.{Nothing, Taking}
use Rattle.members.specs.declared.view.RoomView.{RoomView}
use Rattle.seats.specs.declared.seat.Whose.{Whose}
use Rattle.seats.specs.declared.seat.Whose.TheVariants.{Clients, Ours, Others}
use Rattle.udp.specs.Door.{HearsBefore, HearsCame, HearsElse, HearsExchanged, HearsMore, IsHeardIf, IsSilence, LetsGo, Waits}
use Rattle.udp.specs.Hearing.{Bearings, HearsDatagram, packets_in}
use Rattle.udp.specs.declared.hearing.Hearing.{Hearing}
use Rattle.udp.specs.declared.hearing.Leftover.{Leftover}
use Rattle.udp.specs.declared.who.Who.{Who}

abbrev taking_at : ℕ → Came
taking_at moment = record { moment = moment; admitted = Ok Taking }

pub more_found : (bearings : Who → Bearings) (view : RoomView) (h k : Hearing) (was told moment : ℕ) (made : Option ℕ) (came : Came)
    → made ≡ Some moment → HearsBefore h k view was told (is_some made)
    → IfSome made (λ t. (t ≡ told) × (k.kept.sent.moment ≡ t)) → came ≡ taking_at moment → HearsMore bearings view h k was came
more_found bearings view h k was told moment made came is before now lets = record {
  between = k;
  told = told;
  found = true;
  before = subst (λ (m : Option ℕ). HearsBefore h k view was told (is_some m)) is before;
  then = (
    lets ∙ ap taking_at (subst (λ (m : Option ℕ). IfSome m (λ t. (t ≡ told) × (k.kept.sent.moment ≡ t))) is now).0,
    refl,
  );
}

pub more_else : (bearings : Who → Bearings) (view : RoomView) (h m k : Hearing) (was told : ℕ) (made : Option ℕ) (came : Came)
    → made ≡ None → HearsBefore h m view was told (is_some made) → HearsElse false bearings view m k told came
    → HearsMore bearings view h k was came
more_else bearings view h m k was told made came is before goes = record {
  between = m;
  told = told;
  found = false;
  before = subst (λ (o : Option ℕ). HearsBefore h m view was told (is_some o)) is before;
  then = goes;
}

-- ---- a datagram that came

silent : (a : Admitted) → a ≡ Nothing → IsSilence (Ok a)
silent a is = let P : Admitted → Type 0 = λ b. IsSilence (Ok b) in subst P (sym is) tt

came_or_silence : (whose : Whose) (bearings : Who → Bearings) (view : RoomView) (m k : Hearing) (known later : SeatBook) (moment : ℕ)
    (address : SocketAddr) (size : ℕ) (a : Admitted)
    → IsHeardIf whose bearings view m k known later moment (record { address = address; from = 0; to = size }) a
    → HearsCame bearings view m k moment (Ok a) ⊎ (IsSilence (Ok a) × (k ≡ m))
came_or_silence Clients bearings view m k known later moment address size a heard =
    inl (record { address = address; size = size; heard = heard.0 })
came_or_silence Ours bearings view m k known later moment address size a heard = inr (silent a heard.0, heard.1)
came_or_silence Others bearings view m k known later moment address size a heard = inr (silent a heard.0, heard.1)

pub waits_in : (same : SocketAddr → SocketAddr → Bool) (bearings : Who → Bearings) (view : RoomView) (h m k : Hearing) (known later : SeatBook)
    (moment : ℕ) (a : Admitted) (address : SocketAddr) (size : ℕ)
    → HearsExchanged same bearings view m k known later moment (record { address = address; from = 0; to = size }) a
    → m.who ≡ h.who → m.policies ≡ h.policies → Waits bearings view h k moment (Ok a)
waits_in same bearings view h m k known later moment a address size heard who policies = record {
  filled = heard.between;
  who = heard.who ∙ who;
  policies = heard.policies ∙ policies;
  heard = came_or_silence heard.whose bearings view heard.between k heard.seats later moment address size a heard.heard;
}

-- a client's is heard, and then it is let go if it said goodbye
pub exchanged_clients : (same : SocketAddr → SocketAddr → Bool) (bearings : Who → Bearings) (view : RoomView) (h m n k : Hearing)
    (known seats later : SeatBook) (moment : ℕ) (whole : Leftover) (a : Admitted) (whose : Whose)
    → Hears same known seats whole.address (packets_in h.kept whole) (packets_in m.kept whole) moment whose
    → m.who ≡ h.who → m.policies ≡ h.policies → whose ≡ Clients
    → HearsDatagram (bearings m.who) view m n moment whole a → LetsGo seats later n a → k ≡ n
    → HearsExchanged same bearings view h k known later moment whole a
exchanged_clients same bearings view h m n k known seats later moment whole a whose hears who policies is heard goes stays =
    subst (λ (l : Hearing). HearsExchanged same bearings view h l known later moment whole a) (sym stays) (record {
      between = m;
      seats = seats;
      whose = whose;
      exchanges = hears;
      who = who;
      policies = policies;
      heard = subst (λ (w : Whose). IsHeardIf w bearings view m n seats later moment whole a) (sym is) (heard, goes);
    })

nobodys : (bearings : Who → Bearings) (view : RoomView) (m : Hearing) (seats : SeatBook) (moment : ℕ) (whole : Leftover) (whose : Whose)
    → (whose ≡ Ours) ⊎ (whose ≡ Others) → IsHeardIf whose bearings view m m seats seats moment whole Nothing
nobodys bearings view m seats moment whole Clients is = elim is [ inl e ↦ absurd (cc) | inr e ↦ absurd (cc) ]
nobodys bearings view m seats moment whole Ours is = (refl, refl, refl)
nobodys bearings view m seats moment whole Others is = (refl, refl, refl)

-- nobody's isn't
pub exchanged_nobodys : (same : SocketAddr → SocketAddr → Bool) (bearings : Who → Bearings) (view : RoomView) (h m : Hearing) (known seats : SeatBook)
    (moment : ℕ) (whole : Leftover) (whose : Whose)
    → Hears same known seats whole.address (packets_in h.kept whole) (packets_in m.kept whole) moment whose
    → m.who ≡ h.who → m.policies ≡ h.policies → (whose ≡ Ours) ⊎ (whose ≡ Others)
    → HearsExchanged same bearings view h m known seats moment whole Nothing
exchanged_nobodys same bearings view h m known seats moment whole whose hears who policies is = record {
  between = m;
  seats = seats;
  whose = whose;
  exchanges = hears;
  who = who;
  policies = policies;
  heard = nobodys bearings view m seats moment whole whose is;
}
