-- the KEM whose secret is a key
pub mod KeyKem
-- its laws
pub mod KeyKemLaws
