mod EndpointsByKeyLemmas
mod NetworkLemmas
pub mod ClientLemmas
pub mod AddressBookLemmas
pub mod ServedLemmas
pub mod SeatingLemmas
pub mod NameLemmas
